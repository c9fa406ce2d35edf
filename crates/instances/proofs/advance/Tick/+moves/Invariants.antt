-- The cycle of calls that moves one formula by one tick ends: the formulas left fall from call to call, and where they stay, the rank of the function falls.
-- The walk over the positions of a range has come down to position `index`, and `acc` is what the positions from there on give with the end.
use Rattle.std.proofs.Common.{◌≡◌, ◌+◌, ◌*◌, ◌≤◌, length}
use Rattle.cell_runs.specs.Tree.{tree_at}
use Rattle.cell_runs.proofs.Walks.{WalkedTo}
use Rattle.instances.proofs.advance.Tick.+moves.Given as goal

abbrev pub decreases-advance_part : goal.decreases-advance_part
decreases-advance_part l = 8 * l.node.left + 2

abbrev pub decreases-advance_position : goal.decreases-advance_position
decreases-advance_position l = 8 * l.node.left + 3

abbrev pub decreases-walk_positions : goal.decreases-walk_positions
decreases-walk_positions l = 8 * l.node.left + 4

abbrev pub decreases-advance_range : goal.decreases-advance_range
decreases-advance_range l = 8 * l.node.left + 5

abbrev pub decreases-advance_then : goal.decreases-advance_then
decreases-advance_then l = 8 * l.node.left + 4

abbrev pub decreases-advance_beside : goal.decreases-advance_beside
decreases-advance_beside l = 8 * l.node.left + 4

abbrev pub decreases-advance_not : goal.decreases-advance_not
decreases-advance_not l = 8 * l.node.left

abbrev pub decreases-advance : goal.decreases-advance
decreases-advance l = 8 * l.node.left + 1

abbrev pub invariant-walk_positions-loop-index : goal.invariant-walk_positions-loop-index
invariant-walk_positions-loop-index l =
    (l.index ≤ l.walk.positions)
    × ((l.walk.leading ≤ l.index)
    × ((length l.run ≡ length l.initial.run)
    × WalkedTo (tree_at l.node.left l.self.nodes.now l.node.word) l.self.history.now l.self.flag l.variables l.s l.self.t l.walk.first l.walk.leading l.walk.positions l.initial.acc l.walk.size l.initial.run l.index l.acc l.run))
