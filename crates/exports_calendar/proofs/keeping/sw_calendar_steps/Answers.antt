-- `exports_calendar::keeping::sw_calendar_steps` meets its contract.
use Rattle.std.proofs.Common.{◌≡◌, arith}
use Rattle.cell_runs.specs.Moves.{Stands}
use Rattle.state_bytes.specs.States.{in_bytes}
use Rattle.exports_calendar.proofs.Kept.{batch_kept, changed, filled_at}
use Rattle.exports_calendar.proofs.keeping.sw_calendar_steps.Goals as goal

pub returns-then-number-eq0-clause-batch_promise : goal.returns-then-number-eq0-clause-batch_promise
returns-then-number-eq0-clause-batch_promise c =
    let stepped = c.sw_steps-number in
    let lent = c.args in
    let tick = c.next_tick-tick in
    let taken : stepped.result ≡ 0 = omega (arith, c.if-number-eq0.true) in
    batch_kept Stands in_bytes _ _ _ _ _ stepped.ensures.batch_promise
    (changed _ _ _ _ stepped.result taken (filled_at lent.state.now lent.words.now _ tick.result tick.ensures.value _ c.fill.ensures))
