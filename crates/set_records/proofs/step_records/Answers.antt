-- `set_records::step_records` meets its contract: what the step of the loaded set promises is promised of the records that are saved from it.
use mathlib.Core.Path.{◌≡◌}
use lib.ListN.{length}
use Rattle.set_values.specs.declared.RuleSet.{RuleSet}
use Rattle.set_values.proofs.Lists.{length_mapped}
use Rattle.set_records.proofs.Further.{step_whole}
use borrow.Author.Rules.{rules}
use Rattle.set_records.proofs.step_records.Goals as goal

pub returns : goal.returns
returns c =
    let values : RuleSet = c.step_set-stepped.result.set in
    let all : length values.rules ≡ 32 = search (rules, length_mapped, c.step_set-stepped.type_inv) in
    step_whole c.args.sheet.now c.args.records.now c.args.history.now c.args.cells.now c.args.flag c.args.report.now c.step_set-stepped.result c.save_records.new.records
    c.step_set-stepped.new.history c.step_set-stepped.new.cells c.step_set-stepped.new.report all c.save_records.ensures
    (rw c.load_records-set.ensures at c.step_set-stepped.ensures)
