-- The violations of a recording before they are put into order.
use Rattle.std.specs.Prelude.{ℕ, List, length}
use Rattle.rule.specs.Formula.{Formula}
use Rattle.complete_report.specs.declared.Violation.{Violation}
use Rattle.complete_report.specs.FalseSteps.{false_step, by_tick}

abbrev pub unordered : Formula → List ℕ → List Violation
unordered F rec = by_tick (false_step F rec) (length rec) (length rec) 0
