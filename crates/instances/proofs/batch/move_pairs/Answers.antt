-- `instances::batch::move_pairs` meets its contract.
use Prim.Native.Nat.{◌+◌}
use Rattle.cell_runs.proofs.Batches.{spread_room, pairs_moved}
use Rattle.instances.proofs.batch.move_pairs.Goals as goal

pub spread-requires : goal.spread-requires
spread-requires c =
    let m = c.move_tick-moved in
    spread_room c.args.rule.now.nodes.now c.args.rule.now.figures c.args.t c.args.history.now c.args.flag c.args.cells.now c.args.report.now (c.args.rule.now.figures.delay + 1) c.requires
    m.result.reported m.result.live m.new.history m.new.cells m.new.report m.ensures

pub returns : goal.returns
returns c =
    let m = c.move_tick-moved in
    pairs_moved c.args.rule.now.nodes.now c.args.rule.now.figures c.args.t c.args.history.now c.args.flag c.args.cells.now c.args.report.now (c.args.rule.now.figures.delay + 1) c.requires
    m.result.reported m.result.live m.new.history m.new.cells m.new.report m.ensures c.spread.new.report c.spread.ensures
