-- `set_values::words::write_words` meets its contract.
use mathlib.Core.Path.{◌≡◌}
use lib.ListN.{length}
use Rattle.running.specs.Records.{rules_in}
use Rattle.set_values.proofs.Lists.{mixed}
use Rattle.set_values.proofs.record_words.write_words.Given as goal

abbrev pub invariant-loop-index : goal.invariant-loop-index
invariant-loop-index l = (rules_in l.words ≡ mixed l.set.rules (rules_in l.initial.words) l.index) × (length l.words ≡ length l.initial.words)
