-- `report_check::missing::first_missing` meets its contract.
use Prim.Native.Nat.{◌-◌}
use mathlib.Core.Path.{◌≡◌, refl, sym, ap, ap₂, ◌∙◌}
use native.Mathlib.Omega.{arith}
use lib.ListN.{length}
use Rattle.nodes.specs.Table.{formula_in}
use Rattle.complete_report.specs.Report.{violation}
use Rattle.complete_report.specs.FalseSteps.{false_step}
use Rattle.report_check.specs.Absent.{some_below, earlier_of}
use Rattle.report_check.specs.Checking.{earlier, missing_at}
use Rattle.report_check.specs.Marks.{is_marked}
use Rattle.report_check.proofs.Entries.{missing_less, missing_none}
use Rattle.report_check.proofs.FirstOf.{first_below, none_at_end}
use Rattle.report_check.proofs.missing.first_missing.Goals as goal

pub loop-tick-init : goal.loop-tick-init
loop-tick-init c =
    let end = length c.args.recorded.now.recording.now in
    (violation end end, none_at_end end, refl)

pub loop-tick-preserved : goal.loop-tick-preserved
loop-tick-preserved c =
    let steps = false_step (formula_in 64 c.args.recorded.now.nodes.now 0 0) c.args.recorded.now.recording.now in
    let end = length c.args.recorded.now.recording.now in
    let turn = c.loop-tick in
    let w = turn.invariant.0 in
    let v = missing_at steps end (is_marked c.args.marks.now) (turn.tick - 1) in (
      earlier v w,
      c.earlier-first.ensures ∙ ap₂ earlier_of c.unmarked.ensures turn.invariant.1 ∙ first_below end v w,
      turn.invariant.2 ∙ missing_less steps end (is_marked c.args.marks.now) turn.tick w (omega arith) refl refl,
    )

pub returns : goal.returns
returns c =
    let steps = false_step (formula_in 64 c.args.recorded.now.nodes.now 0 0) c.args.recorded.now.recording.now in
    let end = length c.args.recorded.now.recording.now in
    let turn = c.loop-tick in
    let none : turn.tick ≡ 0 = omega arith in
    turn.invariant.1
    ∙ ap (some_below end) (sym (turn.invariant.2 ∙ missing_none steps end (is_marked c.args.marks.now) turn.tick turn.invariant.0 none))
