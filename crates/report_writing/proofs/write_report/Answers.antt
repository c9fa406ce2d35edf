-- `report_writing::write_report` meets its contract: the violations, put into order, are the complete report.
use Rattle.std.proofs.Common.{List, length, sym, ap, ◌∙◌}
use Rattle.refusal.specs.Answer.{Answer, accepted}
use Rattle.nodes.specs.Table.{formula_in}
use Rattle.complete_report.specs.declared.Violation.{Violation}
use Rattle.complete_report.specs.Report.{how_many, list_with}
use Rattle.complete_report.specs.Lists.{violations_in}
use Rattle.report_writing.proofs.Delivered.{length_complete, room_lacks, room_is, put_in_order}
use Rattle.report_writing.proofs.write_report.Goals as goal

pub returns-then-not-has_room-clause-result_value : goal.returns-then-not-has_room-clause-result_value
returns-then-not-has_room-clause-result_value c =
    sym (ap how_many (room_lacks (formula_in 64 c.args.recorded.now.nodes.now 0 0) c.args.recorded.now.recording.now c.args.recorded.now.short (length c.args.list.now) (sym c.has_room.ensures ∙ c.if-not-has_room.true)))

pub returns-then-not-has_room-clause-list_after : goal.returns-then-not-has_room-clause-list_after
returns-then-not-has_room-clause-list_after c =
    sym (ap (λ (a : Answer (List Violation)). list_with a (violations_in c.args.list.now))
    (room_lacks (formula_in 64 c.args.recorded.now.nodes.now 0 0) c.args.recorded.now.recording.now c.args.recorded.now.short (length c.args.list.now) (sym c.has_room.ensures ∙ c.if-not-has_room.true)))

pub returns-clause-result_value : goal.returns-clause-result_value
returns-clause-result_value c =
    let F = formula_in 64 c.args.recorded.now.nodes.now 0 0 in
    ap accepted (c.collect-count.ensures.value ∙ sym (length_complete F c.args.recorded.now.recording.now c.args.recorded.now.short))
    ∙ sym (ap how_many (room_is F c.args.recorded.now.recording.now c.args.recorded.now.short (length c.args.list.now) (sym c.has_room.ensures ∙ c.if-not-has_room.false)))

pub returns-clause-list_after : goal.returns-clause-list_after
returns-clause-list_after c =
    let F = formula_in 64 c.args.recorded.now.nodes.now 0 0 in
    put_in_order F c.args.recorded.now.recording.now c.args.recorded.now.short (violations_in c.args.list.now) c.collect-count.result c.collect-count.new.list c.sort.new.list
    c.collect-count.ensures.value c.collect-count.ensures.list_after c.sort.ensures
    ∙ sym (ap (λ (a : Answer (List Violation)). list_with a (violations_in c.args.list.now))
    (room_is F c.args.recorded.now.recording.now c.args.recorded.now.short (length c.args.list.now) (sym c.has_room.ensures ∙ c.if-not-has_room.false)))
