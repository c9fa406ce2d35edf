-- `report_check::missing::first_missing` meets its contract: the first of all ticks is the first of those below `tick` and of `first`.
use mathlib.Core.Path.{◌≡◌}
use lib.ListN.{length}
use Rattle.nodes.specs.Table.{formula_in}
use Rattle.complete_report.specs.declared.Violation.{Violation}
use Rattle.complete_report.specs.Report.{violation}
use Rattle.complete_report.specs.FalseSteps.{false_step}
use Rattle.report_check.specs.Absent.{some_below}
use Rattle.report_check.specs.Checking.{first_missing}
use Rattle.report_check.specs.Marks.{is_marked}
use Rattle.report_check.proofs.missing.first_missing.Given as goal

abbrev pub invariant-loop-tick : goal.invariant-loop-tick
invariant-loop-tick l =
    let steps = false_step (formula_in 64 l.recorded.nodes.now 0 0) l.recorded.recording.now in
    let end = length l.recorded.recording.now in
    (w : Violation) × (l.first ≡ some_below end w)
    × (first_missing steps end (is_marked l.marks) end (violation end end) ≡ first_missing steps end (is_marked l.marks) l.tick w)
