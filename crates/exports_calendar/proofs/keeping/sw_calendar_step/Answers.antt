-- `exports_calendar::keeping::sw_calendar_step` meets its contract.
use Rattle.std.proofs.Common.{◌≡◌, arith}
use Rattle.cell_runs.specs.Moves.{Stands}
use Rattle.state_bytes.specs.States.{in_bytes}
use Rattle.exports_calendar.proofs.Kept.{step_kept, changed, marked_at}
use Rattle.exports_calendar.proofs.keeping.sw_calendar_step.Goals as goal

pub returns-then-number-eq0-clause-step_promise : goal.returns-then-number-eq0-clause-step_promise
returns-then-number-eq0-clause-step_promise c =
    let stepped = c.sw_step-number in
    let lent = c.args in
    let tick = c.next_tick-tick in
    let taken : stepped.result ≡ 0 = omega (arith, c.if-number-eq0.true) in
    step_kept Stands in_bytes _ _ _ _ _ stepped.ensures.step_promise
    (changed _ _ _ _ stepped.result taken (marked_at lent.state.now lent.words.now _ tick.result tick.ensures.value lent.flag c.mark.ensures))
