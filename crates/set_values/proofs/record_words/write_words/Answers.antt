-- `set_values::words::write_words` meets its contract.
use mathlib.Core.Path.{◌≡◌, refl, ◌∙◌}
use native.Mathlib.Omega.{arith}
use lib.ListN.{length, length-map}
use Rattle.demand.specs.SetContract.{no_rule}
use Rattle.running.specs.Records.{rule_in, rules_in}
use Rattle.set_values.specs.declared.RuleSet.{RuleSet}
use Rattle.set_values.proofs.Lists.{length_mapped, mixed_turn}
use borrow.Author.Rules.{rules}
use Rattle.set_values.proofs.record_words.write_words.Goals as goal

pub loop-index-preserved : goal.loop-index-preserved
loop-index-preserved c =
    let values : RuleSet = c.args.set in
    let words = c.args.words.now in
    let all : length values.rules ≡ 32 = search (rules, length_mapped) in (
      mixed_turn values.rules (rules_in words) (rules_in c.loop-index.words) (rules_in c.store_rule.new.records) c.loop-index.index no_rule _
          (omega (arith, c.loop-index-test.true, c.loop-index.invariant.1, c.requires, all)) (omega (arith, c.loop-index-test.true, c.loop-index.invariant.1, length-map words rule_in))
          c.loop-index.invariant.0 c.store_rule.ensures refl,
      c.store_rule.auto.records ∙ c.loop-index.invariant.1,
    )
