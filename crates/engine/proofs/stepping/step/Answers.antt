-- `engine::stepping::step` meets its contract.
use mathlib.Core.Path.{sym, ap, ◌∙◌}
use native.Mathlib.Omega.{arith}
use Rattle.std.specs.Result.{result_map_both}
use Rattle.refusal.proofs.Answers.{handed_on}
use Rattle.engine.proofs.Kept.{step_too_long, tick_left, step_refused, step_taken}
use Rattle.engine.proofs.stepping.step.Goals as goal

pub returns-in_err-body : goal.returns-in_err-body
returns-in_err-body c =
    rw (handed_on c.from_residual.result c.in_err-body.field-0.0 c.from_residual.ensures)
    (step_too_long c.args.state.now c.args.flag c.args.history.now c.args.cells.now c.args.report.now (sym c.rule_body.ensures ∙ ap (result_map_both _ _) c.in_err-body.was))

pub returns-in_err-counts : goal.returns-in_err-counts
returns-in_err-counts c =
    let r = c.take_step in
    rw (handed_on c.from_residual-in_err-counts.result c.in_err-counts.field-0.0 c.from_residual-in_err-counts.ensures)
    (step_refused c.args.state.now c.args.flag c.args.history.now c.args.cells.now c.args.report.now c.in_ok-body.body.now (sym c.rule_body.ensures ∙ ap (result_map_both _ _) c.in_ok-body.was) r.result r.new.history r.new.cells r.new.report r.ensures c.in_err-counts.was)

pub overflow_add-state : goal.overflow_add-state
overflow_add-state c =
    let r = c.take_step in
    let low = tick_left c.args.state.now c.args.flag c.args.history.now c.args.cells.now c.args.report.now c.in_ok-body.body.now (sym c.rule_body.ensures ∙ ap (result_map_both _ _) c.in_ok-body.was) r.result r.new.history r.new.cells r.new.report r.ensures c.in_ok-counts.was in
    omega arith

pub returns : goal.returns
returns c =
    let r = c.take_step in
    step_taken c.args.state.now c.args.flag c.args.history.now c.args.cells.now c.args.report.now c.in_ok-body.body.now (sym c.rule_body.ensures ∙ ap (result_map_both _ _) c.in_ok-body.was) r.result r.new.history r.new.cells r.new.report r.ensures c.in_ok-counts.was
