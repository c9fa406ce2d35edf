-- `report_check::agreeing::agree` meets its contract.
use Prim.Native.Nat.{ℕ, ◌<◌}
use mathlib.Core.Path.{◌≡◌, refl, sym, ap, ◌∙◌}
use mathlib.Core.List.{List}
use native.Mathlib.Omega.{arith}
use lib.ListN.{length, get_or, length-map}
use Rattle.nodes.specs.Table.{formula_in}
use Rattle.complete_report.specs.declared.Violation.{Violation}
use Rattle.complete_report.specs.Lists.{violation_in, violations_in, none_lent}
use Rattle.complete_report.specs.FalseSteps.{false_step}
use Rattle.report_check.specs.Checking.{is_violation}
use Rattle.report_check.specs.Marks.{marked, all_marked}
use Rattle.report_check.proofs.Entries.{agrees_at_first, not_above, no_violation, one_more, agrees_to_the_end, marked_more}
use Rattle.report_check.proofs.agreeing.agree.Goals as goal
use Rattle.report_check.proofs.agreeing.agree.Goals.{then-not-ascends-via-then-not-ascends, then-not-ascends-via-else-not-ascends+then-not-is_violation}

pub loop-index-init : goal.loop-index-init
unfolding all_marked
loop-index-init c =
    (agrees_at_first (false_step (formula_in 64 c.args.recorded.now.nodes.now 0 0) c.args.recorded.now.recording.now) (length c.args.recorded.now.recording.now) (violations_in c.args.claimed.now), refl)

pub loop-index-preserved : goal.loop-index-preserved
loop-index-preserved c =
    let turn = c.loop-index in
    let claimed = violations_in c.args.claimed.now in
    let entry = c.violation_at-next.ensures in
    let inside : turn.index < length claimed = omega (arith, c.loop-index-test.true, length-map c.args.claimed.now violation_in) in (
      one_more (false_step (formula_in 64 c.args.recorded.now.nodes.now 0 0) c.args.recorded.now.recording.now) (length c.args.recorded.now.recording.now) claimed turn.index inside turn.invariant.0 (sym c.ascends.ensures ∙ c.if-not-ascends.false)
          (ap (is_violation (false_step (formula_in 64 c.args.recorded.now.nodes.now 0 0) c.args.recorded.now.recording.now) (length c.args.recorded.now.recording.now)) (sym entry) ∙ sym c.is_violation.ensures ∙ c.if-not-is_violation.false),
      c.mark.ensures ∙ ap (λ (v : Violation). marked c.loop-index.marks v.tick) entry
          ∙ ap (λ (m : List ℕ). marked m (get_or claimed turn.index none_lent).tick) turn.invariant.1 ∙ marked_more c.args.marks.now claimed turn.index inside,
    )

pub returns-then-not-ascends-clause-value : goal.returns-then-not-ascends-clause-value
returns-then-not-ascends-clause-value c =
    let turn = c.loop-index in
    let claimed = violations_in c.args.claimed.now in
    let entry = c.violation_at-next.ensures in
    let inside : turn.index < length claimed = omega (arith, c.loop-index-test.true, length-map c.args.claimed.now violation_in) in
    elim c.then-not-ascends.branch [
      | then-not-ascends-via-then-not-ascends w ↦
          not_above (false_step (formula_in 64 c.args.recorded.now.nodes.now 0 0) c.args.recorded.now.recording.now) (length c.args.recorded.now.recording.now) claimed turn.index inside turn.invariant.0
          (sym c.ascends.ensures ∙ w.if-not-ascends.true)
      | then-not-ascends-via-else-not-ascends+then-not-is_violation w ↦
          no_violation (false_step (formula_in 64 c.args.recorded.now.nodes.now 0 0) c.args.recorded.now.recording.now) (length c.args.recorded.now.recording.now) claimed turn.index inside turn.invariant.0
          (sym c.ascends.ensures ∙ w.if-not-ascends.false)
          (ap (is_violation (false_step (formula_in 64 c.args.recorded.now.nodes.now 0 0) c.args.recorded.now.recording.now) (length c.args.recorded.now.recording.now)) (sym entry) ∙ sym w.is_violation.ensures ∙ w.if-not-is_violation.true)
    ]

pub returns-clause-value : goal.returns-clause-value
returns-clause-value c =
    let turn = c.loop-index in
    let last : length c.args.claimed.now ≡ turn.index = omega arith in
    last ∙ agrees_to_the_end (false_step (formula_in 64 c.args.recorded.now.nodes.now 0 0) c.args.recorded.now.recording.now) (length c.args.recorded.now.recording.now) (violations_in c.args.claimed.now) turn.index
    (omega (arith, last, length-map c.args.claimed.now violation_in)) turn.invariant.0
