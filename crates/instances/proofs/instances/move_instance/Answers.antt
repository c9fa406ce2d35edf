-- `instances::move_instance` meets its contract: an instance is a position of no range, or was decided before.
use lib.ListN.{length}
use Rattle.cell_runs.specs.Tree.{tree_at}
use Rattle.cell_runs.proofs.OneInstance.{moved_of, slot_fit, stood_of}
use Rattle.instances.proofs.instances.move_instance.Goals as goal

pub returns-in-Decided : goal.returns-in-Decided
returns-in-Decided c =
    let held = c.load_outcome-held in
    stood_of (tree_at c.args.left c.args.tick.now.nodes.now 0) c.args.tick.now.history.now c.args.tick.now.flag c.args.tick.now.t c.args.p c.args.run.now held.result _ _ c.if-p-tick.true held.ensures c.in-Decided.is

pub advance_position-requires : goal.advance_position-requires
advance_position-requires c =
    slot_fit (tree_at c.args.left c.args.tick.now.nodes.now 0) c.args.tick.now.t c.args.p (length c.args.run.now) c.requires

pub returns : goal.returns
returns c =
    let moved = c.advance_position in
    moved_of (tree_at c.args.left c.args.tick.now.nodes.now 0) c.args.tick.now.history.now c.args.tick.now.flag c.args.tick.now.t c.args.p _ _ c.args.run.now moved.new.slot moved.result moved.ensures
