-- `exports_watch::watching::sw_step` meets its contract.
use Rattle.std.proofs.Common.{rules}
use Rattle.exports_watch.proofs.Kept.{step_refused, step_taken}
use Rattle.exports_watch.proofs.watching.sw_step.Goals as goal

pub returns-in-Err-clause-step_promise : goal.returns-in-Err-clause-step_promise
returns-in-Err-clause-step_promise c =
    let a = c.args in
    let l = c.load-held in
    let s = c.step in
    step_refused a.state.now a.flag a.history.now a.cells.now a.report.now l.result l.ensures.value s.result s.new.state s.new.history s.new.cells s.new.report
    s.ensures c.number.result a.reported.now a.live.now c.in-Err.is c.number.ensures

pub returns-in-Ok-clause-step_promise : goal.returns-in-Ok-clause-step_promise
returns-in-Ok-clause-step_promise c =
    let a = c.args in
    let l = c.load-held in
    let s = c.step in
    step_taken a.state.now a.flag a.history.now a.cells.now a.report.now l.result l.ensures.value s.result s.new.state s.new.history s.new.cells s.new.report
    s.ensures c.store_progress.new.state c.in-Ok.is c.store_progress.ensures.next_fits (search rules) l.ensures.state_len c.store_progress.ensures.state_after
