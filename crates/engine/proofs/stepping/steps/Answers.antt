-- `engine::stepping::steps` meets its contract.
use mathlib.Core.Path.{sym, ap, ◌∙◌}
use native.Mathlib.Omega.{arith}
use Rattle.std.specs.Result.{result_map_both}
use Rattle.refusal.proofs.Answers.{handed_on}
use Rattle.engine.proofs.Kept.{batch_too_long, ticks_left, batch_refused, batch_taken}
use Rattle.engine.proofs.stepping.steps.Goals as goal

pub returns-in_err-body : goal.returns-in_err-body
returns-in_err-body c =
    rw (handed_on c.from_residual.result c.in_err-body.field-0.0 c.from_residual.ensures)
    (batch_too_long c.args.state.now c.args.flags.now c.args.history.now c.args.cells.now c.args.report.now (sym c.rule_body.ensures ∙ ap (result_map_both _ _) c.in_err-body.was))

pub returns-in_err-batch : goal.returns-in_err-batch
returns-in_err-batch c =
    let r = c.take_batch in
    rw (handed_on c.from_residual-in_err-batch.result c.in_err-batch.field-0.0 c.from_residual-in_err-batch.ensures)
    (batch_refused c.args.state.now c.args.flags.now c.args.history.now c.args.cells.now c.args.report.now c.in_ok-body.body.now (sym c.rule_body.ensures ∙ ap (result_map_both _ _) c.in_ok-body.was) r.result r.new.history r.new.cells r.new.report r.ensures c.in_err-batch.was)

pub overflow_add-state : goal.overflow_add-state
overflow_add-state c =
    let r = c.take_batch in
    let low = ticks_left c.args.state.now c.args.flags.now c.args.history.now c.args.cells.now c.args.report.now c.in_ok-body.body.now (sym c.rule_body.ensures ∙ ap (result_map_both _ _) c.in_ok-body.was) r.result r.new.history r.new.cells r.new.report r.ensures c.in_ok-batch.was in
    omega arith

pub returns : goal.returns
returns c =
    let r = c.take_batch in
    batch_taken c.args.state.now c.args.flags.now c.args.history.now c.args.cells.now c.args.report.now c.in_ok-body.body.now (sym c.rule_body.ensures ∙ ap (result_map_both _ _) c.in_ok-body.was) r.result r.new.history r.new.cells r.new.report r.ensures c.in_ok-batch.was
