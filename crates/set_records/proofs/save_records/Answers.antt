-- `set_records::save_records` meets its contract.
use mathlib.Core.Path.{◌≡◌, ap, ◌∙◌}
use mathlib.Core.List.{List, ◌++◌}
use lib.ListN.{length, drop}
use Rattle.demand.specs.declared.Running.{Running}
use Rattle.set_values.specs.declared.RuleSet.{RuleSet}
use Rattle.set_values.proofs.Lists.{length_mapped}
use Rattle.set_records.proofs.Lists.{saving_all}
use borrow.Author.Rules.{rules}
use Rattle.set_records.proofs.save_records.Goals as goal

pub returns : goal.returns
returns c =
    let values : RuleSet = c.args.set in
    let all : length values.rules ≡ 32 = search (rules, length_mapped, c.well_formed.1.0) in
    ap (λ (l : List Running). l ++ drop c.held_count-count.result c.args.records.now) c.copy_from_slice.ensures.after
    ∙ saving_all c.args.records.now values c.held_count-count.result all c.held_count-count.ensures
