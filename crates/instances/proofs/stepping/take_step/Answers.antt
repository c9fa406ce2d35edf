-- `instances::stepping::take_step` meets its contract.
use Prim.Native.Nat.{ℕ, ◌%◌}
use mathlib.Core.Path.{ap, ◌∙◌}
use lib.ListN.{length, set}
use Rattle.refusal.proofs.Answers.{handed_on}
use Rattle.demand.proofs.Admission.{step_admitted}
use Rattle.instances.proofs.stepping.take_step.Goals as goal

pub returns-in_err-counts : goal.returns-in_err-counts
returns-in_err-counts c live =
    rw (handed_on c.from_residual.result c.in_err-counts.field-0.0 c.from_residual.ensures)
    (rw c.in_err-counts.was at (c.take_tick.ensures live))

pub returns : goal.returns
returns c live =
    let stepped = rw c.in_ok-counts.was at (c.take_tick.ensures live) in
    let fits = (step_admitted c.args.body.now c.args.opened c.args.tick (length c.args.history.now) (length c.args.cells.now) (length c.args.report.now) stepped.0 stepped.1).history_fits in
    let stored = c.remember.ensures ∙ ap (λ (n : ℕ). set c.args.history.now (c.args.tick % n) c.args.flag) fits in
    rw stored stepped
