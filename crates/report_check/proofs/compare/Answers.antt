-- `report_check::compare` meets its contract.
use mathlib.Core.Path.{refl, ap, ◌∙◌}
use native.Mathlib.Omega.{arith}
use lib.ListN.{length, length-map}
use Rattle.nodes.specs.Table.{formula_in}
use Rattle.complete_report.specs.Lists.{violation_in, violations_in}
use Rattle.complete_report.specs.Report.{violation}
use Rattle.complete_report.specs.FalseSteps.{false_step}
use Rattle.report_check.specs.Absent.{beside}
use Rattle.report_check.specs.Checking.{first_missing}
use Rattle.report_check.specs.Marks.{is_marked}
use Rattle.report_check.proofs.Compares.{count_few, compares}
use Rattle.report_check.proofs.FirstOf.{beside_first}
use Rattle.report_check.proofs.compare.Goals as goal

pub comparison-requires : goal.comparison-requires
comparison-requires c =
    let list = c.args.claimed.now in
    omega (arith, c.agree-agreed.ensures.value, length-map list violation_in, count_few (formula_in 64 c.args.recorded.now.nodes.now 0 0) c.args.recorded.now.recording.now (violations_in list) c.args.recorded.now.short)

pub returns : goal.returns
returns c =
    let a = c.agree-agreed in
    let F = formula_in 64 c.args.recorded.now.nodes.now 0 0 in
    let rec = c.args.recorded.now.recording.now in
    let first = first_missing (false_step F rec) (length rec) (is_marked a.new.marks) (length rec) (violation (length rec) (length rec)) in
    compares F rec (violations_in c.args.claimed.now) c.args.recorded.now.short a.result a.new.marks first
    c.comparison.result a.ensures.value a.ensures.marks_after refl
    (c.comparison.ensures ∙ ap (beside (violations_in c.args.claimed.now) a.result) c.first_missing-missing.ensures
    ∙ beside_first (length rec) (violations_in c.args.claimed.now) a.result first)
