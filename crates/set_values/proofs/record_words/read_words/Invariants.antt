-- `set_values::words::read_words` meets its contract.
use mathlib.Core.Path.{◌≡◌}
use Rattle.running.specs.Records.{rules_in}
use Rattle.set_values.proofs.Lists.{mixed}
use Rattle.set_values.proofs.record_words.read_words.Given as goal

abbrev pub invariant-loop-index : goal.invariant-loop-index
invariant-loop-index l = l.set ≡ record { rules = mixed (rules_in l.words) l.initial.set.rules l.index; lent = l.initial.set.lent }
