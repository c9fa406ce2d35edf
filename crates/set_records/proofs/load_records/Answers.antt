-- `set_records::load_records` meets its contract.
use mathlib.Core.Path.{◌≡◌}
use borrow.Author.Rules.{rules}
use Rattle.demand.specs.SetContract.{no_rule}
use Rattle.set_records.proofs.Lists.{loaded_over}
use Rattle.set_records.proofs.load_records.Goals as goal

pub returns : goal.returns
returns c =
    let none : c.default-rules.result ≡ no_rule = search rules in
    loaded_over c.args.records.now c.held_count-count.result c.default-rules.result c.copy_from_slice.new.self none c.held_count-count.ensures c.copy_from_slice.ensures.after
