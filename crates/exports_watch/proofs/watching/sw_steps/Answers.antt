-- `exports_watch::watching::sw_steps` meets its contract.
use Rattle.std.proofs.Common.{rules}
use Rattle.exports_watch.proofs.Kept.{batch_refused, batch_taken}
use Rattle.exports_watch.proofs.watching.sw_steps.Goals as goal

pub returns-in-Err-clause-batch_promise : goal.returns-in-Err-clause-batch_promise
returns-in-Err-clause-batch_promise c =
    let a = c.args in
    let l = c.load-held in
    let s = c.steps in
    batch_refused a.state.now a.flags.now a.history.now a.cells.now a.report.now l.result l.ensures.value s.result s.new.state s.new.history s.new.cells s.new.report
    s.ensures c.number.result a.taken.now a.pairs.now a.live.now c.in-Err.is c.number.ensures

pub returns-in-Ok-clause-batch_promise : goal.returns-in-Ok-clause-batch_promise
returns-in-Ok-clause-batch_promise c =
    let a = c.args in
    let l = c.load-held in
    let s = c.steps in
    batch_taken a.state.now a.flags.now a.history.now a.cells.now a.report.now l.result l.ensures.value s.result s.new.state s.new.history s.new.cells s.new.report
    s.ensures c.store_progress.new.state c.in-Ok.is c.store_progress.ensures.next_fits (search rules) l.ensures.state_len c.store_progress.ensures.state_after
