-- `set_opening::write_rules` meets its contract.
use Prim.Native.Nat.{◌≤◌}
use mathlib.Core.Path.{◌≡◌, refl, sym, ap, ◌∙◌}
use native.Mathlib.Omega.{arith}
use lib.ListN.{length, length-map}
use Rattle.refusal.proofs.Answers.{same_value}
use Rattle.running.specs.Records.{rule_in, rules_in}
use Rattle.set_admission.proofs.Judged.{together}
use Rattle.set_opening.proofs.Writes.{written_none, written_next, written_all, first_low, unwrapped}
use Rattle.set_opening.proofs.write_rules.Goals as goal

pub loop-index-init : goal.loop-index-init
loop-index-init c = (refl, λ figures e. written_none _ _ _ figures)

pub opened_rule-requires : goal.opened_rule-requires
opened_rule-requires c =
    let p = c.requires in
    (first_low _ _ _ _ _ _ p.figures (c.loop-index.invariant.1 p.figures p.figures_are) (together _ _ p.figures_are), p.low)

pub overflow_add-first : goal.overflow_add-first
overflow_add-first c =
    let p = c.requires in
    omega (arith, first_low _ _ _ _ _ _ p.figures (c.loop-index.invariant.1 p.figures p.figures_are) (together _ _ p.figures_are))

pub loop-index-preserved : goal.loop-index-preserved
loop-index-preserved c =
    let p = c.requires in (
      c.store_rule.auto.records ∙ c.loop-index.invariant.0,
      λ figures e.
          let n : c.args.count ≡ length figures = p.count-is ∙ ap length (same_value (sym p.figures_are ∙ e)) in
          let room : length figures ≤ length (rules_in c.args.records.now) = omega (arith, n, p.room, length-map c.args.records.now rule_in) in
          written_next _ _ _ _ _ _ figures (c.loop-index.invariant.1 figures e) (together _ figures e)
          (omega (arith, n, c.loop-index-test.true)) room _ (λ f here. unwrapped _ _ _ _ c.unwrap_or_default-rule.ensures (c.opened_rule.ensures f here)) _ c.store_rule.ensures,
    )

pub returns : goal.returns
returns c figures e =
    let n : c.args.count ≡ length figures = c.requires.count-is ∙ ap length (same_value (sym c.requires.figures_are ∙ e)) in
    written_all _ _ _ _ _ _ figures (c.loop-index.invariant.1 figures e) (omega (arith, n, c.loop-index-test.false)) (omega (arith, n, c.loop-index.auto.index-end))
