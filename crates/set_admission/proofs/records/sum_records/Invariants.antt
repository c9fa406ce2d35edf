-- `set_admission::sum_records` meets its contract.
use Rattle.running.specs.Records.{rules_in}
use Rattle.set_admission.proofs.Recorded.{SoFar}
use Rattle.set_admission.proofs.records.sum_records.Given as goal

abbrev pub invariant-loop-index : goal.invariant-loop-index
invariant-loop-index l = SoFar l.sheet l.lead (rules_in l.records) l.count l.cells l.pairs l.index
