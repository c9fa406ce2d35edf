-- `sheet_writer::put_contents` meets its contract. The loop's invariant: what is stored, and the entries still to come, are the table of contents.
use Prim.Native.Nat.{◌≤◌, ◌+◌, ◌*◌}
use mathlib.Core.Path.{◌≡◌}
use mathlib.Core.List.{◌++◌}
use lib.ListN.{length, drop, take}
use Rattle.sheet_writer.specs.Writing.{entries, table_of_contents}
use Rattle.sheet_writer.proofs.put_contents.Given as goal

abbrev pub invariant-loop-index : goal.invariant-loop-index
invariant-loop-index l =
    (l.count ≡ length l.lengths)
    × (length l.out ≡ length l.initial.out)
    × (l.at ≤ 1 + 4 * l.count + 512 * l.index)
    × (take (1 + 4 * l.index) l.out ++ entries l.at (drop l.index l.lengths) ≡ table_of_contents l.lengths)
    × (drop (1 + 4 * l.index) l.out ≡ drop (1 + 4 * l.index) l.initial.out)
