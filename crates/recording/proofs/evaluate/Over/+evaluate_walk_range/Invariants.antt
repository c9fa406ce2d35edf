-- `recording::evaluate::Over::evaluate` and `walk_range` end: the formulas left fall from call to call. The "for all" is what a walk over the
-- positions that are left makes of the outcome so far.
use Rattle.std.proofs.Common.{◌≡◌, ◌+◌, ◌-◌, ◌*◌}
use Rattle.rule.specs.Meaning.{walk, outcome}
use Rattle.rule.specs.Recording.{recorded}
use Rattle.nodes.specs.Table.{formula_in}
use Rattle.naming.specs.Ranges.{forall_of_node}
use Rattle.recording.specs.Evaluating.{bound_positions}
use Rattle.recording.proofs.Walking.{body_at}
use Rattle.recording.proofs.evaluate.Over.+evaluate_walk_range.Given as goal

abbrev pub decreases-evaluate : goal.decreases-evaluate
decreases-evaluate l = 2 * l.left

abbrev pub decreases-walk_range : goal.decreases-walk_range
decreases-walk_range l = 2 * l.left + 1

abbrev pub invariant-walk_range-loop-q : goal.invariant-walk_range-loop-q
invariant-walk_range-loop-q l =
    outcome (forall_of_node l.left l.self.nodes.now l.env.depth l.node) (recorded l.self.recording.now) l.self.t (bound_positions l.env) l.s
    ≡ walk (body_at (formula_in l.left l.self.nodes.now (l.env.depth + 1) (l.node + 12)) l.self.recording.now l.self.t (bound_positions l.env) l.s) (l.end - l.q) l.q l.acc
