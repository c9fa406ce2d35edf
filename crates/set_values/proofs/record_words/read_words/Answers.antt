-- `set_values::words::read_words` meets its contract.
use Prim.Native.Nat.{ℕ, ◌+◌, ◌<◌}
use mathlib.Core.Path.{◌≡◌, refl, ap, ◌∙◌}
use mathlib.Core.List.{List}
use native.Mathlib.Omega.{arith}
use lib.ListN.{length, length-map, get_or, set}
use Rattle.demand.specs.declared.Running.{Running}
use Rattle.demand.specs.SetContract.{no_rule}
use Rattle.running.specs.Records.{rule_in, rules_in}
use Rattle.set_values.specs.declared.RuleSet.{RuleSet}
use Rattle.set_values.proofs.Lists.{length_mapped, mixed, mixed_turn}
use borrow.Author.Rules.{rules}
use Rattle.set_values.proofs.record_words.read_words.Goals as goal

-- One turn, over plain values.
values-turn : (front : List Running) (values₀ values : RuleSet) (n : ℕ) (rule : Running) → n < length front → n < length values₀.rules
    → values ≡ record { rules = mixed front values₀.rules n; lent = values₀.lent } → rule ≡ get_or front n no_rule
    → ◌≡◌ {A = RuleSet} (record { rules = set values.rules n rule; lent = values.lent }) (record { rules = mixed front values₀.rules (n + 1); lent = values₀.lent })
values-turn front values₀ values n rule inside within so read =
    ap (λ (v : RuleSet). record { rules = set v.rules n rule; lent = v.lent }) so
    ∙ ap (λ (l : List Running). record { rules = l; lent = values₀.lent })
    (mixed_turn front values₀.rules (mixed front values₀.rules n) (set (mixed front values₀.rules n) n rule) n no_rule rule inside within refl refl read)

pub loop-index-preserved : goal.loop-index-preserved
loop-index-preserved c =
    let values : RuleSet = c.args.set in
    let words = c.args.words.now in
    let all : length values.rules ≡ 32 = search (rules, length_mapped) in
    values-turn (rules_in words) values c.loop-index.set c.loop-index.index c.rule_at.result
    (omega (arith, c.loop-index-test.true, length-map words rule_in)) (omega (arith, c.loop-index-test.true, c.requires, all))
    c.loop-index.invariant c.rule_at.ensures
