-- `report_writing::write` meets its contract.
use Rattle.std.proofs.Common.{List, length, ap, ◌∙◌}
use Rattle.refusal.specs.Answer.{Answer}
use Rattle.refusal.specs.Numbers.{number_of}
use Rattle.refusal.proofs.Answers.{handed_on}
use Rattle.nodes.specs.Table.{formula_in}
use Rattle.complete_report.specs.declared.Violation.{Violation}
use Rattle.complete_report.specs.Report.{how_many, list_with}
use Rattle.complete_report.specs.Lists.{violations_in}
use Rattle.report_writing.proofs.Delivered.{delivers, refuses}
use Rattle.report_writing.proofs.write.Goals as goal

pub returns-clause-result_value : goal.returns-clause-result_value
returns-clause-result_value c =
    c.write_report.ensures.result_value
    ∙ ap how_many (delivers c.args.sheet.now c.args.rule c.args.recording.now (length c.args.list.now) (formula_in 64 c.read_rule.new.nodes 0 0) c.in_ok-read_rule.ensures)

pub returns-clause-list_after : goal.returns-clause-list_after
returns-clause-list_after c =
    c.write_report.ensures.list_after
    ∙ ap (λ (a : Answer (List Violation)). list_with a (violations_in c.args.list.now))
    (delivers c.args.sheet.now c.args.rule c.args.recording.now (length c.args.list.now) (formula_in 64 c.read_rule.new.nodes 0 0) c.in_ok-read_rule.ensures)

pub returns-in_err-read_rule-clause-result_value : goal.returns-in_err-read_rule-clause-result_value
returns-in_err-read_rule-clause-result_value c =
    rw (handed_on c.from_residual.result c.in_err-read_rule.field-0.0 c.from_residual.ensures)
    (ap how_many (refuses c.args.sheet.now c.args.rule c.args.recording.now (length c.args.list.now) (number_of c.in_err-read_rule.field-0.0) c.in_err-read_rule.ensures))

pub returns-in_err-read_rule-clause-list_after : goal.returns-in_err-read_rule-clause-list_after
returns-in_err-read_rule-clause-list_after c =
    ap (λ (a : Answer (List Violation)). list_with a (violations_in c.args.list.now))
    (refuses c.args.sheet.now c.args.rule c.args.recording.now (length c.args.list.now) (number_of c.in_err-read_rule.field-0.0) c.in_err-read_rule.ensures)
