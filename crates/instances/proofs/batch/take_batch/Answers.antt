-- `instances::batch::take_batch` meets its contract.
use mathlib.Core.Path.{refl}
use lib.ListN.{length}
use Rattle.refusal.proofs.Answers.{handed_on}
use Rattle.demand.specs.Contract.{state_at}
use Rattle.cell_runs.proofs.Takes.{admitted_as, refused_as, table_of, flags_fit}
use Rattle.instances.proofs.batch.take_batch.Goals as goal

pub returns-in_err-figures : goal.returns-in_err-figures
returns-in_err-figures c =
    let step = c.admit_step in
    rw (handed_on c.from_residual.result c.in_err-figures.field-0.0 c.from_residual.ensures)
    (refused_as c.args.body.now c.args.opened c.args.tick (length c.args.history.now) (length c.args.cells.now) 256 step.result step.new.nodes step.ensures c.in_err-figures.was, (refl, refl, refl))

pub move_flags-requires : goal.move_flags-requires
move_flags-requires c =
    let step = c.admit_step in
    flags_fit c.args.body.now c.args.opened c.args.tick (length c.args.history.now) (length c.args.cells.now) 256 step.result step.new.nodes step.ensures c.in_ok-figures.figures c.in_ok-figures.was

pub returns : goal.returns
returns c =
    let step = c.admit_step in
    let f = c.in_ok-figures.figures in
    let sized = c.in_ok-figures.was in (
      f,
      admitted_as c.args.body.now c.args.opened c.args.tick (length c.args.history.now) (length c.args.cells.now) 256 step.result step.new.nodes step.ensures sized,
      c.move_flags.ensures.takes (state_at c.args.body.now c.args.opened c.args.tick c.args.live) (table_of c.args.body.now c.args.opened c.args.tick (length c.args.history.now) (length c.args.cells.now) 256 step.result step.new.nodes step.ensures f sized c.args.live) refl,
    )
