-- `recording::evaluate::Over::evaluate` and `walk_range` meet their contracts: the evaluator answers the formula's outcome for any table, and the
-- walker that of a "for all". The formulas left fall from call to call.
use Rattle.std.proofs.Common.{ℕ, suc, ◌≡◌, refl, sym, ap, ◌∙◌, false, ◌+◌, ◌-◌, ◌<◌, ◌≤◌, arith}
use Rattle.rule.specs.Started.{raise}
use Rattle.rule.specs.Recording.{recorded}
use Rattle.rule.proofs.Every.{walk_none}
use Rattle.nodes.specs.Table.{formula_in}
use Rattle.nodes.proofs.Nots.{nots_less}
use Rattle.recording.specs.Evaluating.{bound_positions}
use Rattle.recording.proofs.Environment.{place_at}
use Rattle.naming.proofs.Nodes.{none_in, then_in, beside_in, range_in, flag_in}
use Rattle.recording.proofs.Parts.{by_same, by_flag, by_beside, beside_settled, then_true, then_false, then_open}
use Rattle.recording.proofs.Nots.{ready_nots, by_nots}
use Rattle.recording.proofs.Walking.{body_at, walk_planned, walk_further, body_settled, body_here, body_alike, plan_here, by_forall, no_forall}
use Rattle.recording.proofs.evaluate.Over.+evaluate_walk_range.Goals as goal

pub evaluate-returns-then-left-eq0 : goal.evaluate-returns-then-left-eq0
evaluate-returns-then-left-eq0 t c =
    by_flag c.args.self.now.recording.now c.args.self.now.t (bound_positions c.args.env) c.args.s
    (none_in c.args.left c.args.self.now.nodes.now c.args.env.depth c.args.node c.if-left-eq0.true) (place_at c.requires 0) c.flag.ensures

pub evaluate-evaluate-outcome-requires : goal.evaluate-evaluate-outcome-requires
evaluate-evaluate-outcome-requires t c = (
  omega (
    arith,
    nots_less c.args.self.now.nodes.now c.args.left c.args.node false c.skip_nots-operand.result c.skip_nots-operand.ensures c.if-left-eq0.false c.in-Not.ensures,
  ),
  ready_nots c.args.self.now.nodes.now c.args.left c.args.node c.skip_nots-operand.result c.skip_nots-operand.ensures c.requires,
)

pub evaluate-returns-in-Not : goal.evaluate-returns-in-Not
evaluate-returns-in-Not t c =
    by_nots c.args.self.now.nodes.now c.args.left c.args.node c.skip_nots-operand.result c.skip_nots-operand.ensures c.args.env.depth
    (recorded c.args.self.now.recording.now) c.args.self.now.t (bound_positions c.args.env) c.args.s c.evaluate-outcome.result c.opposite_if.result
    c.evaluate-outcome.ensures c.opposite_if.ensures

pub evaluate-returns-in-Decided-True-default : goal.evaluate-returns-in-Decided-True-default
evaluate-returns-in-Decided-True-default t c =
    then_true c.args.self.now.recording.now c.args.self.now.t (bound_positions c.args.env) c.args.s
    (then_in c.args.left c.args.self.now.nodes.now c.args.env.depth c.args.node c.if-left-eq0.false c.in-Then.ensures c.node_word-second.ensures)
    c.evaluate-first.ensures c.in-Decided-True-default.is (rw c.in-Decided-True-default.is at c.in-Decided-True-default.field-0-is) c.evaluate.ensures

pub evaluate-returns-in-Decided-False-default : goal.evaluate-returns-in-Decided-False-default
evaluate-returns-in-Decided-False-default t c =
    then_false c.args.self.now.recording.now c.args.self.now.t (bound_positions c.args.env) c.args.s
    (then_in c.args.left c.args.self.now.nodes.now c.args.env.depth c.args.node c.if-left-eq0.false c.in-Then.ensures c.node_word-second.ensures)
    c.evaluate-first.ensures c.in-Decided-False-default.is (rw c.in-Decided-False-default.is at c.in-Decided-False-default.field-0-is)

pub evaluate-returns-in-Open : goal.evaluate-returns-in-Open
evaluate-returns-in-Open t c =
    then_open c.args.self.now.recording.now c.args.self.now.t (bound_positions c.args.env) c.args.s
    (then_in c.args.left c.args.self.now.nodes.now c.args.env.depth c.args.node c.if-left-eq0.false c.in-Then.ensures c.node_word-second.ensures)
    c.evaluate-first.ensures c.in-Open.is

pub evaluate-returns-then-settled : goal.evaluate-returns-then-settled
evaluate-returns-then-settled t c =
    beside_settled c.args.self.now.recording.now c.args.self.now.t (bound_positions c.args.env) c.args.s
    (beside_in c.args.left c.args.self.now.nodes.now c.args.env.depth c.args.node c.if-left-eq0.false c.in-Beside.ensures refl)
    c.evaluate-first-in-Beside.ensures c.settled.ensures c.if-settled.true

pub evaluate-returns-else-settled : goal.evaluate-returns-else-settled
evaluate-returns-else-settled t c =
    by_beside c.args.self.now.recording.now c.args.self.now.t (bound_positions c.args.env) c.args.s
    (beside_in c.args.left c.args.self.now.nodes.now c.args.env.depth c.args.node c.if-left-eq0.false c.in-Beside.ensures c.node_word-second-in-Beside.ensures)
    c.evaluate-first-in-Beside.ensures c.evaluate-in-Beside.ensures c.both.ensures

pub evaluate-returns-in-ForAll : goal.evaluate-returns-in-ForAll
evaluate-returns-in-ForAll t c =
    by_same c.args.self.now.recording.now c.args.self.now.t (bound_positions c.args.env) c.args.s
    (range_in c.args.left c.args.self.now.nodes.now c.args.env.depth c.args.node c.if-left-eq0.false c.in-ForAll.ensures)
    c.walk_range.ensures

pub evaluate-returns-in-Flag : goal.evaluate-returns-in-Flag
evaluate-returns-in-Flag t c =
    by_flag c.args.self.now.recording.now c.args.self.now.t (bound_positions c.args.env) c.args.s
    (flag_in c.args.left c.args.self.now.nodes.now c.args.env.depth c.args.node c.if-left-eq0.false
    c.in-Flag.ensures.0 c.in-Flag.ensures.1 c.in-Flag.ensures.2 c.in-Flag.ensures.3 c.node_word-variable.ensures c.node_word-k.ensures)
    (place_at c.requires c.node_word-variable.result) c.flag-in-Flag.ensures

pub walk_range-returns-then-env-ge-NESTED : goal.walk_range-returns-then-env-ge-NESTED
walk_range-returns-then-env-ge-NESTED t c =
    by_flag c.args.self.now.recording.now c.args.self.now.t (bound_positions c.args.env) c.args.s
    (no_forall c.args.left c.args.self.now.nodes.now c.args.node c.args.self.now.recording.now c.args.self.now.t c.args.env c.args.s c.if-env-ge-NESTED.true)
    (place_at c.requires 0) c.flag.ensures

pub walk_range-loop-q-init : goal.walk_range-loop-q-init
walk_range-loop-q-init t c =
    let p = plan_here c.args.left c.args.self.now.nodes.now c.args.node c.args.self.now.recording.now c.args.self.now.t c.args.env c.args.s c.requires c.range_at.ensures
    c.plan_up_to-plan.ensures in
    by_forall c.args.left c.args.self.now.nodes.now c.args.node c.args.self.now.recording.now c.args.self.now.t c.args.env c.args.s (omega arith) p
    ∙ sym (walk_planned (body_at (formula_in c.args.left c.args.self.now.nodes.now (c.args.env.depth + 1) (c.args.node + 12)) c.args.self.now.recording.now
    c.args.self.now.t (bound_positions c.args.env) c.args.s)
    _ 0 c.plan_up_to-plan.result.end c.plan_up_to-plan.result.first c.plan_up_to-plan.result.count refl)

pub walk_range-returns-then-settled : goal.walk_range-returns-then-settled
walk_range-returns-then-settled t c =
    sym (c.loop-q.invariant
    ∙ body_settled (formula_in c.args.left c.args.self.now.nodes.now (c.args.env.depth + 1) (c.args.node + 12)) c.args.self.now.recording.now c.args.self.now.t
    (bound_positions c.args.env) c.args.s (c.plan_up_to-plan.result.first + c.plan_up_to-plan.result.count - c.loop-q.q) c.loop-q.q c.loop-q.acc
    c.max-start.ensures c.settled.ensures c.if-settled.true)

pub walk_range-returns-then-alike : goal.walk_range-returns-then-alike
walk_range-returns-then-alike t c =
    let shallow : c.args.env.depth < 4 = omega arith in
    let p = plan_here c.args.left c.args.self.now.nodes.now c.args.node c.args.self.now.recording.now c.args.self.now.t c.args.env c.args.s c.requires c.range_at.ensures
    c.plan_up_to-plan.ensures in
    let end : ℕ = c.plan_up_to-plan.result.first + c.plan_up_to-plan.result.count in
    let n : ℕ = end - c.loop-q.q in
    let some : c.loop-q.q < end = c.loop-q-test.true in
    let from : c.plan_up_to-plan.result.first ≤ c.loop-q.q = c.loop-q.auto.q in
    let few : c.plan_up_to-plan.result.count ≤ suc c.args.self.now.t - c.plan_up_to-plan.result.first = p.few in
    let last : end - 1 ≡ c.loop-q.q + (n - 1) = omega arith in
    sym (c.loop-q.invariant
    ∙ body_alike c.args.left c.args.self.now.nodes.now c.args.node c.args.self.now.recording.now c.args.self.now.t c.args.env c.args.s n c.loop-q.q
    c.plan_up_to-plan.result.count c.loop-q.acc c.requires.five shallow (omega arith) (omega arith) c.alike-alike.ensures c.if-alike.true
    (body_here c.args.left c.args.self.now.nodes.now c.args.node c.args.self.now.recording.now c.args.self.now.t c.args.env c.args.s c.loop-q.q c.requires.five shallow
    (omega arith) c.enter.ensures c.max-start.ensures c.evaluate-outcome.ensures)
    c.both-acc.ensures (c.raise.ensures ∙ ap (λ (k : ℕ). raise k c.evaluate-outcome.result) last) c.both.ensures)

pub walk_range-loop-q-preserved : goal.walk_range-loop-q-preserved
walk_range-loop-q-preserved t c =
    let p = plan_here c.args.left c.args.self.now.nodes.now c.args.node c.args.self.now.recording.now c.args.self.now.t c.args.env c.args.s c.requires c.range_at.ensures
    c.plan_up_to-plan.ensures in
    let few : c.plan_up_to-plan.result.count ≤ suc c.args.self.now.t - c.plan_up_to-plan.result.first = p.few in
    let some : c.loop-q.q < c.plan_up_to-plan.result.first + c.plan_up_to-plan.result.count = c.loop-q-test.true in
    let from : c.plan_up_to-plan.result.first ≤ c.loop-q.q = c.loop-q.auto.q in
    c.loop-q.invariant
    ∙ walk_further (body_at (formula_in c.args.left c.args.self.now.nodes.now (c.args.env.depth + 1) (c.args.node + 12)) c.args.self.now.recording.now
    c.args.self.now.t (bound_positions c.args.env) c.args.s)
    (c.plan_up_to-plan.result.first + c.plan_up_to-plan.result.count) c.loop-q.q c.loop-q.acc some
    (body_here c.args.left c.args.self.now.nodes.now c.args.node c.args.self.now.recording.now c.args.self.now.t c.args.env c.args.s c.loop-q.q c.requires.five (omega arith)
    (omega arith) c.enter.ensures c.max-start.ensures c.evaluate-outcome.ensures)
    c.both-acc.ensures

pub walk_range-returns : goal.walk_range-returns
walk_range-returns t c =
    sym (c.loop-q.invariant
    ∙ walk_none (body_at (formula_in c.args.left c.args.self.now.nodes.now (c.args.env.depth + 1) (c.args.node + 12)) c.args.self.now.recording.now c.args.self.now.t
    (bound_positions c.args.env) c.args.s)
    (c.plan_up_to-plan.result.first + c.plan_up_to-plan.result.count - c.loop-q.q) c.loop-q.q c.loop-q.acc (omega arith))
