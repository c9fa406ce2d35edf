-- `instances::stepping::take_tick` meets its contract.
use mathlib.Core.Path.{refl}
use lib.ListN.{length}
use Rattle.refusal.proofs.Answers.{handed_on}
use Rattle.demand.specs.Contract.{state_at}
use Rattle.cell_runs.proofs.Takes.{admitted_as, refused_as, table_of, tick_fits}
use Rattle.instances.proofs.stepping.take_tick.Goals as goal

pub returns-in_err-figures : goal.returns-in_err-figures
returns-in_err-figures c live =
    let step = c.admit_step in
    rw (handed_on c.from_residual.result c.in_err-figures.field-0.0 c.from_residual.ensures)
    (refused_as c.args.body.now c.args.opened c.args.tick (length c.args.history.now) (length c.args.cells.now) (length c.args.report.now) step.result step.new.nodes step.ensures c.in_err-figures.was, (refl, refl, refl))

pub move_rule-requires : goal.move_rule-requires
move_rule-requires c =
    let step = c.admit_step in
    tick_fits c.args.body.now c.args.opened c.args.tick (length c.args.history.now) (length c.args.cells.now) (length c.args.report.now) step.result step.new.nodes step.ensures c.in_ok-figures.figures c.in_ok-figures.was

pub returns : goal.returns
returns c live =
    let step = c.admit_step in
    let f = c.in_ok-figures.figures in
    let sized = c.in_ok-figures.was in
    let moved = c.move_rule in
    let taken = moved.ensures.takes (state_at c.args.body.now c.args.opened c.args.tick live) (table_of c.args.body.now c.args.opened c.args.tick (length c.args.history.now) (length c.args.cells.now) (length c.args.report.now) step.result step.new.nodes step.ensures f sized live) in (
      f,
      admitted_as c.args.body.now c.args.opened c.args.tick (length c.args.history.now) (length c.args.cells.now) (length c.args.report.now) step.result step.new.nodes step.ensures sized,
      rw taken.history_is at taken,
    )
