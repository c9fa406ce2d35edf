-- `set_stepping::pairs::time_pairs` meets its contract: the pairs from `at` on are triples, the words before are as they were.
use Rattle.set_stepping.proofs.InPlace.{TimedFrom}
use Rattle.set_stepping.proofs.pairs.time_pairs.Given as goal

abbrev pub invariant-loop-at : goal.invariant-loop-at
invariant-loop-at l = TimedFrom l.initial.report l.count l.step l.at l.report
