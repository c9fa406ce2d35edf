-- `set_admission::sum_figures` meets its contract.
use mathlib.Core.Path.{refl}
use Prim.Native.Nat.{◌≤◌, ◌<◌}
use native.Mathlib.Omega.{arith}
use Rattle.sheet.specs.Sheet.{rule_count}
use Rattle.refusal.proofs.Answers.{handed_on}
use Rattle.set_admission.proofs.Laying.{laid_told}
use Rattle.set_admission.proofs.Judged.{rule_small, sums_small, one_rule_more, rule_refused}
use Rattle.set_admission.proofs.sheet_figures.sum_figures.Goals as goal

pub returns-in_err-rule_figures : goal.returns-in_err-rule_figures
returns-in_err-rule_figures c =
    let l = (laid_told c.args.sheet.now c.requires).0 in
    let inside : c.loop-index.index < rule_count c.args.sheet.now = omega (arith, c.loop-index-test.true, c.byte_after-index-end.ensures.0) in
    rw (handed_on c.from_residual.result c.in_err-rule_figures.field-0.0 c.from_residual.ensures)
    (rule_refused _ _ _ c.loop-index.invariant l inside _ c.in_err-rule_figures.ensures _ refl)

pub with_figures-sums-requires-clause-small_sums : goal.with_figures-sums-requires-clause-small_sums
with_figures-sums-requires-clause-small_sums c =
    let l = (laid_told c.args.sheet.now c.requires).0 in
    let low : c.loop-index.index ≤ 32 = omega (arith, c.loop-index-test.true, c.byte_after-index-end.ensures.0, l.most) in
    sums_small _ _ _ c.loop-index.invariant low

pub with_figures-sums-requires-clause-figures_within : goal.with_figures-sums-requires-clause-figures_within
with_figures-sums-requires-clause-figures_within c = rule_small _ _ _ c.in_ok-rule_figures.ensures _ refl

pub loop-index-preserved : goal.loop-index-preserved
loop-index-preserved c =
    let l = (laid_told c.args.sheet.now c.requires).0 in
    let inside : c.loop-index.index < rule_count c.args.sheet.now = omega (arith, c.loop-index-test.true, c.byte_after-index-end.ensures.0) in
    one_rule_more _ _ _ c.loop-index.invariant l inside _ c.in_ok-rule_figures.ensures _ refl _ c.with_figures-sums.ensures
