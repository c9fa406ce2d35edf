-- `set_stepping::pairs::number_ticks` meets its contract: the ticks from `at` on are pairs, those before are as they were.
use Rattle.set_stepping.proofs.InPlace.{NumberedFrom}
use Rattle.set_stepping.proofs.pairs.number_ticks.Given as goal

abbrev pub invariant-loop-at : goal.invariant-loop-at
invariant-loop-at l = NumberedFrom l.initial.report l.count l.rule l.at l.report
