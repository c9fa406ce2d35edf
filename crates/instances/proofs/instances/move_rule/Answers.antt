-- `instances::instances::move_rule` meets its contract.
use mathlib.Core.Path.{refl}
use lib.ListN.{length}
use Rattle.cell_runs.proofs.Rules.{rule_fits, rule_takes}
use Rattle.instances.proofs.instances.move_rule.Goals as goal

pub move_ticks-requires-clause-ticks_fit : goal.move_ticks-requires-clause-ticks_fit
move_ticks-requires-clause-ticks_fit c =
    rule_fits c.args.tick.now.nodes.now c.args.figures (length c.args.tick.now.history.now) c.args.tick.now.t (length c.args.cells.now) (length c.args.report.now) c.requires

pub returns : goal.returns
returns c =
    let moved = c.move_ticks in
    let oldest = c.oldest_tick-low in
    rule_takes c.args.tick.now.nodes.now c.args.figures _ c.args.tick.now.history.now c.args.tick.now.flag c.args.tick.now.t oldest.result c.args.cells.now c.args.report.now moved.result.reported moved.result.live
    moved.new.table moved.new.report refl oldest.ensures c.requires.cells_fit moved.auto.table moved.ensures.ticks_moved
    moved.auto.report moved.ensures.spared
