-- `reader::writer::write_head` meets its contract: after k rounds the first k words are written.
use mathlib.Core.Path.{◌≡◌}
use lib.ListN.{length}
use Rattle.reader.proofs.Nodes.{Written}
use Rattle.reader.proofs.writer.write_head.Given as goal

abbrev pub invariant-loop-index : goal.invariant-loop-index
invariant-loop-index l = (length l.nodes ≡ length l.initial.nodes) × Written l.body l.at l.node l.initial.nodes l.nodes l.index
