-- `set_records::open_records` meets its contract: what the opening of the loaded set promises is promised of the records that are saved from it.
use mathlib.Core.Path.{◌≡◌}
use lib.ListN.{length}
use Rattle.set_values.specs.declared.RuleSet.{RuleSet}
use Rattle.set_values.proofs.Lists.{length_mapped}
use Rattle.set_records.proofs.Further.{open_whole}
use borrow.Author.Rules.{rules}
use Rattle.set_records.proofs.open_records.Goals as goal

pub returns : goal.returns
returns c =
    let values : RuleSet = c.open_set-opened.result.set in
    let all : length values.rules ≡ 32 = search (rules, length_mapped, c.open_set-opened.type_inv) in
    open_whole c.args.sheet.now c.args.records.now c.args.history.now c.args.cells.now c.open_set-opened.result c.save_records.new.records c.open_set-opened.new.history
    all c.save_records.ensures (rw c.load_records-set.ensures at c.open_set-opened.ensures)
