-- `set_stepping::rules::take_flag` meets its contract.
use Rattle.running.specs.Records.{rules_in}
use Rattle.set_stepping.proofs.AllRules.{history_stored}
use Rattle.set_stepping.proofs.rules.take_flag.Goals as goal

pub returns : goal.returns
returns c =
    let a = c.args in
    let moved = c.move_rules-moved in
    let lead = c.rule_at-lead in
    history_stored a.sheet.now (rules_in a.records.now) a.history.now a.flag a.cells.now a.report.now lead.result lead.ensures _ _ _ _ _ c.remember.new.history c.remember.ensures moved.ensures
