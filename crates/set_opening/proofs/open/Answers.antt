-- `set_opening::open` meets its contract.
use lib.ListN.{length-map}
use Rattle.refusal.proofs.Answers.{handed_on}
use Rattle.running.specs.Records.{rule_in, rules_in}
use Rattle.set_opening.proofs.Opens.{open_refused, openable, open_keeps}
use Rattle.set_opening.proofs.open.Goals as goal

pub returns-in_err-sums : goal.returns-in_err-sums
returns-in_err-sums c =
    rw (handed_on c.from_residual.result c.in_err-sums.field-0.0 c.from_residual.ensures)
    (open_refused c.args.sheet.now (rules_in c.args.records.now) c.args.history.now c.args.cells.now _ (length-map c.args.records.now rule_in)
    _ c.in_err-sums.ensures)

pub write_rules-requires : goal.write_rules-requires
write_rules-requires c =
    openable c.args.sheet.now (rules_in c.args.records.now) c.args.history.now c.args.cells.now _ (length-map c.args.records.now rule_in)
    _ c.in_ok-sums.ensures

pub returns : goal.returns
returns c =
    open_keeps c.args.sheet.now (rules_in c.args.records.now) c.args.history.now c.args.cells.now _ (length-map c.args.records.now rule_in)
    _ c.in_ok-sums.ensures _ _ c.write_rules.ensures c.zero.ensures
