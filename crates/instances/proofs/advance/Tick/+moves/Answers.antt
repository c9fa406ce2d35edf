-- The cycle of calls that moves one formula by one tick. Each answer is one lemma about plain lists, outcomes and numbers.
use Rattle.std.proofs.Common.{arith, ℕ, ◌≡◌, ◌≤◌, ◌<◌, ◌+◌, ◌*◌, ◌-◌, ◌%◌, false, inl, inr, length, take, drop, get_or, refl, sym, ap, subst, ◌∙◌}
use lib.ListN.{set}
use mathlib.Core.Logic.{◌⊎◌}
use Rattle.rule.specs.declared.Outcome.{Outcome}
use Rattle.rule.specs.declared.Outcome.TheVariants.{Decided, Open}
use Rattle.cells.specs.Cells.{held}
use Rattle.ring.specs.Ring.{byte_of}
use borrow.Rule.Slice.PartMut.{same_len_mid, put_mid}
use Rattle.nodes.specs.Codes.{IsCode}
use Rattle.nodes.specs.declared.codes.Code.TheVariants.{Flag}
use Rattle.nodes.specs.Table.{bound_at}
use Rattle.nodes.proofs.Nodes.{word_in}
use Rattle.outcomes.proofs.Falses.{false_step}
use Rattle.nodes.proofs.Nots.{nots_less}
use Rattle.cell_runs.specs.Tree.{Tree, then_node, beside_node, tree_at}
use Rattle.cell_runs.specs.Calls.{Fit, Advanced}
use Rattle.cell_runs.proofs.PutBack.{tail_take}
use Rattle.cells.proofs.Heads.{leading_least}
use Rattle.cell_runs.proofs.Walks.{walk_done, walk_more, walk_stopped}
use Rattle.cell_runs.proofs.Parts.{tick_is, part_stays, part_moved}
use Rattle.cell_runs.proofs.Positions.{position_of}
use Rattle.cell_runs.proofs.Thens.{then_open, then_false, then_true}
use Rattle.cell_runs.proofs.Besides.{beside_of, beside_stopped}
use Rattle.cell_runs.proofs.Foralls.{plan_here, range_of}
use Rattle.cell_runs.proofs.Formulas.{flag_of, reads_flag, has_parts, is_then, is_beside, is_range}
use Rattle.cell_runs.proofs.Nots.{fit_nots, nots_of}
use Rattle.cell_runs.proofs.Fits.{window_length, fit_entered, fit_head, fit_short, fit_long, fit_walk, fit_store, fit_first, fit_second, fit_beside, fit_left, fit_right, fit_flag, fit_come}
use Rattle.instances.proofs.advance.Tick.+moves.Goals as goal
use Rattle.instances.proofs.advance.Tick.+moves.Goals.{
  advance_part-then-self-s+in_default,
  advance_part-else-self-s,
  advance_position-then-self-start,
  advance_position-else-self-start,
}

pub advance-flag_in-requires : goal.advance-flag_in-requires
advance-flag_in-requires measure c =
    let nodes = c.args.self.now.nodes.now in
    let run = c.args.run.now in
    let left = c.args.node.left in
    let node = c.args.node.word in
    let env = c.args.variables.now in
    let t = c.args.self.now.t in
    let fit = subst (λ (G : Tree). Fit G env t (length run)) (reads_flag nodes node left (sym c.is_flag.ensures ∙ c.if-is_flag.true)) c.requires in
    omega (arith, fit_flag fit, c.requires.few)

pub advance-returns-then-is_flag : goal.advance-returns-then-is_flag
advance-returns-then-is_flag measure c =
    let nodes = c.args.self.now.nodes.now in
    let run = c.args.run.now in
    let hist = c.args.self.now.history.now in
    let left = c.args.node.left in
    let node = c.args.node.word in
    let b = c.args.self.now.flag in
    let env = c.args.variables.now in
    let s = c.args.s in
    let t = c.args.self.now.t in
    let is = reads_flag nodes node left (sym c.is_flag.ensures ∙ c.if-is_flag.true) in
    let fit = subst (λ (G : Tree). Fit G env t (length run)) is c.requires in
    subst (λ (G : Tree). Advanced G hist b env s t run c.flag_in.result run) (sym is)
    (flag_of (get_or nodes (node + 1) 0) (get_or nodes (node + 2) 0) c.flag_in.result (fit_flag fit) c.flag_in.ensures)

pub advance_beside-advance_part-first-requires : goal.advance_beside-advance_part-first-requires
advance_beside-advance_part-first-requires measure c =
    let nodes = c.args.self.now.nodes.now in
    let run = c.args.run.now in
    let left = c.args.node.left in
    let node = c.args.node.word in
    let env = c.args.variables.now in
    let t = c.args.self.now.t in
    let fit = fit_beside env t (length run) (tree_at left nodes (node + 12)) (tree_at left nodes) c.node_word.ensures refl c.requires.1 in
    (omega arith, fit_left fit)

pub advance_beside-returns-then-is_false : goal.advance_beside-returns-then-is_false
advance_beside-returns-then-is_false measure c =
    let nodes = c.args.self.now.nodes.now in
    let run = c.args.run.now in
    let hist = c.args.self.now.history.now in
    let left = c.args.node.left in
    let node = c.args.node.word in
    let b = c.args.self.now.flag in
    let env = c.args.variables.now in
    let s = c.args.s in
    let t = c.args.self.now.t in
    let first-false = false_step c.advance_part-first.result (sym c.is_false.ensures ∙ c.if-is_false.true) in
    subst (λ (n : ℕ). Advanced (beside_node n (tree_at left nodes (node + 12)) (tree_at left nodes (get_or nodes (node + 7) 0))) hist b env s t run c.advance_part-first.result c.advance_part-first.new.run) c.node_word.ensures
    (beside_stopped c.advance_part-first.new.run c.advance_part-first.result first-false.0 c.advance_part-first.ensures first-false.1)

pub advance_beside-advance_part-second-requires : goal.advance_beside-advance_part-second-requires
advance_beside-advance_part-second-requires measure c =
    let nodes = c.args.self.now.nodes.now in
    let run = c.args.run.now in
    let left = c.args.node.left in
    let node = c.args.node.word in
    let env = c.args.variables.now in
    let t = c.args.self.now.t in
    let fit = fit_beside env t (length run) (tree_at left nodes (node + 12)) (tree_at left nodes) c.node_word.ensures c.node_word-2.ensures c.requires.1 in
    (omega arith, fit_right (length c.advance_part-first.new.run) c.advance_part-first.auto.run fit)

pub advance_beside-returns : goal.advance_beside-returns
advance_beside-returns measure c =
    let nodes = c.args.self.now.nodes.now in
    let run = c.args.run.now in
    let hist = c.args.self.now.history.now in
    let left = c.args.node.left in
    let node = c.args.node.word in
    let b = c.args.self.now.flag in
    let env = c.args.variables.now in
    let s = c.args.s in
    let t = c.args.self.now.t in
    let fit = fit_beside env t (length run) (tree_at left nodes (node + 12)) (tree_at left nodes) c.node_word.ensures c.node_word-2.ensures c.requires.1 in
    subst (λ (m : ℕ). Advanced (beside_node (get_or nodes (node + 9) 0) (tree_at left nodes (node + 12)) (tree_at left nodes m)) hist b env s t run c.both.result c.advance_part-second.new.run) c.node_word-2.ensures
    (subst (λ (n : ℕ). Advanced (beside_node n (tree_at left nodes (node + 12)) (tree_at left nodes c.node_word-2.result)) hist b env s t run c.both.result c.advance_part-second.new.run) c.node_word.ensures
    (beside_of c.advance_part-first.new.run c.advance_part-second.new.run c.advance_part-first.result c.advance_part-second.result c.both.result (fit_left fit).inside c.advance_part-first.ensures c.advance_part-second.ensures c.both.ensures))

pub advance_not-advance-outcome-requires : goal.advance_not-advance-outcome-requires
advance_not-advance-outcome-requires measure c =
    let nodes = c.args.self.now.nodes.now in
    let left = c.args.node.left in
    let node = c.args.node.word in
    let under = c.skip_nots-operand.result in
    (omega (arith, nots_less nodes left node false under c.skip_nots-operand.ensures c.requires.0 c.requires.1.0), fit_nots nodes left node under c.skip_nots-operand.ensures c.requires.1.1)

pub advance_not-returns : goal.advance_not-returns
advance_not-returns measure c =
    nots_of c.args.self.now.nodes.now c.args.node.left c.args.node.word c.skip_nots-operand.result c.skip_nots-operand.ensures c.advance-outcome.result c.opposite_if.result c.advance-outcome.new.run c.advance-outcome.ensures c.opposite_if.ensures

pub advance_part-returns-in-Decided : goal.advance_part-returns-in-Decided
advance_part-returns-in-Decided measure c =
    let nodes = c.args.self.now.nodes.now in
    let run = c.args.run.now in
    let hist = c.args.self.now.history.now in
    let left = c.args.node.left in
    let node = c.args.node.word in
    let b = c.args.self.now.flag in
    let env = c.args.variables.now in
    let s = c.args.s in
    let t = c.args.self.now.t in
    let index = c.args.place.index in
    let from = c.args.place.from in
    let to = c.args.place.to in
    part_stays (tree_at left nodes node) hist b env s t index from to run c.own_tick-p.result c.load_outcome-held.result _ _ (c.own_tick-p.ensures ∙ tick_is env c.requires.fit.some) c.if-self-s.true c.load_outcome-held.ensures c.in-Decided.is

pub advance_part-returns : goal.advance_part-returns
advance_part-returns measure c =
    let run = c.args.run.now in
    let env = c.args.variables.now in
    let index = c.args.place.index in
    let p = c.own_tick-p.result in
    let stays : (c.args.self.now.t ≡ c.args.s) ⊎ (Open ≡ held p (get_or run index 0) (get_or run (index + 2) 0)) =
    elim c.if-self-s.branch [ advance_part-then-self-s+in_default w ↦ inr (sym w.in_default.is ∙ w.load_outcome-held.ensures) | advance_part-else-self-s w ↦ inl w.if-self-s.false ] in
    part_moved (tree_at c.args.node.left c.args.self.now.nodes.now c.args.node.word) c.args.self.now.history.now c.args.self.now.flag env c.args.s c.args.self.now.t index c.args.place.from c.args.place.to run p
    (c.own_tick-p.ensures ∙ tick_is env c.requires.fit.some) c.requires (fit_come c.requires.fit) stays
    c.advance-outcome.result c.advance-outcome.new.run c.store_outcome.new.cell c.advance-outcome.ensures c.advance-outcome.auto.run c.store_outcome.ensures

pub advance_position-advance_part-requires : goal.advance_position-advance_part-requires
advance_position-advance_part-requires measure c =
    let slot = c.args.slot.now in
    let mid = c.if-self-start.slot in (
      omega arith,
      fit_entered (tree_at c.args.node.left c.args.self.now.nodes.now c.args.node.word) (c.args.variables.now) c.args.self.now.t c.args.q (get_or mid 1 0 % 256)
          (length slot) (length mid) c.requires c.if-self-start.auto.slot,
    )

pub advance_position-returns : goal.advance_position-returns
advance_position-returns measure c =
    let slot = c.args.slot.now in
    let mid = c.if-self-start.slot in
    let hist = c.args.self.now.history.now in
    let b = c.args.self.now.flag in
    let t = c.args.self.now.t in
    let q = c.args.q in
    let start = c.max-start.result in
    let saved : ((byte : ℕ) × (t ≡ start) × (mid ≡ set slot 1 byte) × (byte ≡ byte_of hist b t q) × (byte < 256)) ⊎ ((t ≡ start → ⊥) × (mid ≡ slot)) =
    elim c.if-self-start.branch [
      | advance_position-then-self-start w ↦ inl (w.from.result, w.if-self-start.true, w.slot-is, w.from.ensures ∙ w.byte_of.ensures, omega (arith, w.from.ensures, w.byte_of.type_inv))
      | advance_position-else-self-start w ↦ inr (w.if-self-start.false, w.slot-is)
    ] in
    position_of (tree_at c.args.node.left c.args.self.now.nodes.now c.args.node.word) hist b (c.args.variables.now) c.args.s t q
    c.requires.few c.requires.five_places c.requires.five_bytes c.requires.come start c.advance_part.result slot mid c.advance_part.new.run c.max-start.ensures
    (omega (arith, c.requires.room)) (omega (arith, c.requires.room, c.if-self-start.auto.slot)) saved c.advance_part.ensures

pub advance_range-load_head-head-requires : goal.advance_range-load_head-head-requires
advance_range-load_head-head-requires measure c = fit_head c.requires.1

pub advance_range-slice_bounds-walk_positions-count : goal.advance_range-slice_bounds-walk_positions-count
advance_range-slice_bounds-walk_positions-count measure c = omega (arith, fit_head c.requires.1)

pub advance_range-slice_bounds-walk_positions-start : goal.advance_range-slice_bounds-walk_positions-start
advance_range-slice_bounds-walk_positions-start measure c = omega (arith, fit_head c.requires.1)

pub advance_range-walk_positions-rest-requires : goal.advance_range-walk_positions-rest-requires
advance_range-walk_positions-rest-requires measure c =
    let nodes = c.args.self.now.nodes.now in
    let run = c.args.run.now in
    let node = c.args.node.word in
    let env = c.args.variables.now in
    let s = c.args.s in
    let t = c.args.self.now.t in
    let plan = plan_here (bound_at nodes (node + 1)) (bound_at nodes (node + 4)) env t s c.plan_up_to-plan.result.first c.plan_up_to-plan.result.count c.plan_up_to-plan.result.end c.range_at-span.result c.requires.1.low c.requires.1.past c.requires.1.unbound c.range_at-span.ensures c.plan_up_to-plan.ensures in (
      omega arith,
      fit_walk c.requires.1 s c.plan_up_to-plan.result.first c.load_head-head.result.leading c.plan_up_to-plan.result.count c.node_word-size.result (length (take (length run - 4) (drop 4 run))) c.plan_up_to-plan.result.end
          (subst (λ (x : ℕ). x ≤ c.plan_up_to-plan.result.count) (sym c.load_head-head.ensures.0) (leading_least s t c.plan_up_to-plan.result.count (get_or run 0 0))) c.node_word-size.ensures (window_length 4 (length run) run (omega arith)) plan,
    )

pub advance_range-move_head-requires : goal.advance_range-move_head-requires
advance_range-move_head-requires measure c =
    let nodes = c.args.self.now.nodes.now in
    let run = c.args.run.now in
    let node = c.args.node.word in
    let env = c.args.variables.now in
    let s = c.args.s in
    let t = c.args.self.now.t in
    let plan = plan_here (bound_at nodes (node + 1)) (bound_at nodes (node + 4)) env t s c.plan_up_to-plan.result.first c.plan_up_to-plan.result.count c.plan_up_to-plan.result.end c.range_at-span.result c.requires.1.low c.requires.1.past c.requires.1.unbound c.range_at-span.ensures c.plan_up_to-plan.ensures in
    fit_store c.requires.1 s c.plan_up_to-plan.result.first c.load_head-head.result.leading c.plan_up_to-plan.result.count c.node_word-size.result (length (put_mid 4 (length run - 4) run c.walk_positions-rest.new.run)) c.plan_up_to-plan.result.end
    (subst (λ (x : ℕ). x ≤ c.plan_up_to-plan.result.count) (sym c.load_head-head.ensures.0) (leading_least s t c.plan_up_to-plan.result.count (get_or run 0 0))) c.node_word-size.ensures (same_len_mid 4 (length run - 4) run c.walk_positions-rest.new.run c.walk_positions-rest.auto.run) plan

pub advance_range-returns : goal.advance_range-returns
advance_range-returns measure c =
    let nodes = c.args.self.now.nodes.now in
    let run = c.args.run.now in
    let node = c.args.node.word in
    let env = c.args.variables.now in
    let s = c.args.s in
    let t = c.args.self.now.t in
    let plan = plan_here (bound_at nodes (node + 1)) (bound_at nodes (node + 4)) env t s c.plan_up_to-plan.result.first c.plan_up_to-plan.result.count c.plan_up_to-plan.result.end c.range_at-span.result c.requires.1.low c.requires.1.past c.requires.1.unbound c.range_at-span.ensures c.plan_up_to-plan.ensures in
    range_of c.plan_up_to-plan.result.first c.plan_up_to-plan.result.count c.load_head-head.result.leading c.load_head-head.result.latest c.own_tick-p.result c.node_word-size.result c.plan_up_to-plan.result.end c.walk_positions-rest.result c.both.result c.walk_positions-rest.new.run (put_mid 4 (length run - 4) run c.walk_positions-rest.new.run) c.move_head.new.run
    c.node_word-size.ensures (fit_head c.requires.1) plan (c.own_tick-p.ensures ∙ tick_is env c.requires.1.some) (omega (arith, fit_long c.requires.1, c.requires.1.some)) c.requires.1.near c.requires.1.low
    (fit_short c.requires.1 s c.plan_up_to-plan.result.first c.plan_up_to-plan.result.count c.plan_up_to-plan.result.end plan)
    c.load_head-head.ensures.0 c.load_head-head.ensures.1 c.walk_positions-rest.ensures refl c.move_head.ensures c.both.ensures

pub advance_then-advance_part-first-requires : goal.advance_then-advance_part-first-requires
advance_then-advance_part-first-requires measure c = (omega arith, fit_first c.requires.1)

pub advance_then-slice_bounds-advance-count : goal.advance_then-slice_bounds-advance-count
advance_then-slice_bounds-advance-count measure c = omega (arith, (fit_first c.requires.1).ordered, c.advance_part-first.auto.run)

pub advance_then-slice_bounds-advance-start : goal.advance_then-slice_bounds-advance-start
advance_then-slice_bounds-advance-start measure c = omega (arith, (fit_first c.requires.1).ordered, c.advance_part-first.auto.run)

pub advance_then-advance-requires : goal.advance_then-advance-requires
advance_then-advance-requires measure c =
    let nodes = c.args.self.now.nodes.now in
    let left = c.args.node.left in
    let env = c.args.variables.now in
    let t = c.args.self.now.t in
    let mid = c.advance_part-first.new.run in
    let long = window_length 4 (length mid) mid (omega arith) ∙ ap (λ (n : ℕ). n - 4) c.advance_part-first.auto.run in (
      omega arith,
      subst (λ (n : ℕ). Fit (tree_at left nodes n) env t (length (take (length mid - 4) (drop 4 mid)))) (sym c.node_word.ensures)
          (subst (Fit (tree_at left nodes (get_or nodes (c.args.node.word + 7) 0)) env t) (sym long) (fit_second c.requires.1)),
    )

pub walk_positions-overflow_add-walk : goal.walk_positions-overflow_add-walk
walk_positions-overflow_add-walk measure c =
    let fit = c.requires.slots (c.loop-index.index - 1) (omega (arith, c.loop-index-test.true, c.loop-index.invariant.0)) in omega (arith, fit.come, fit.low)

pub walk_positions-returns-then-is_false : goal.walk_positions-returns-then-is_false
walk_positions-returns-then-is_false measure c =
    let outcome-false = false_step c.advance_position-outcome.result (sym c.is_false.ensures ∙ c.if-is_false.true) in
    walk_stopped c.loop-index.acc c.both-acc.result c.loop-index.run c.advance_position-outcome.new.slot c.advance_position-outcome.result c.loop-index.index c.loop-index-test.true c.loop-index.invariant.0 (omega (arith, c.loop-index.invariant.1.1.0, c.requires.room))
    (c.requires.slots (c.loop-index.index - 1) (omega (arith, c.loop-index-test.true, c.loop-index.invariant.0))).come c.advance_position-outcome.auto.slot c.advance_position-outcome.ensures outcome-false.0 outcome-false.1 c.both-acc.ensures c.loop-index.invariant.1.1.1

pub walk_positions-loop-index-preserved : goal.walk_positions-loop-index-preserved
walk_positions-loop-index-preserved measure c =
    let size = c.args.walk.size in (
      omega (arith, c.loop-index-test.true, c.loop-index.invariant.0),
      (
        omega (arith, c.loop-index-test.true),
        (
          same_len_mid ((c.loop-index.index - 1) * size) ((c.loop-index.index - 1) * size + size - (c.loop-index.index - 1) * size) c.loop-index.run c.advance_position-outcome.new.slot c.advance_position-outcome.auto.slot ∙ c.loop-index.invariant.1.1.0,
          walk_more c.loop-index.acc c.both-acc.result c.loop-index.run c.advance_position-outcome.new.slot c.advance_position-outcome.result c.loop-index.index c.loop-index-test.true c.loop-index.invariant.0 (omega (arith, c.loop-index.invariant.1.1.0, c.requires.room)) c.advance_position-outcome.auto.slot c.advance_position-outcome.ensures c.both-acc.ensures c.loop-index.invariant.1.1.1,
        ),
      ),
    )

pub walk_positions-returns : goal.walk_positions-returns
walk_positions-returns measure c =
    walk_done c.loop-index.index c.loop-index.acc c.loop-index.run c.loop-index.invariant.1.0 (λ x. omega (arith, x, c.loop-index-test.false)) c.loop-index.invariant.1.1.1

pub advance-overflow_sub-parts : goal.advance-overflow_sub-parts
advance-overflow_sub-parts measure c =
    omega (arith, (has_parts c.args.self.now.nodes.now c.args.node.word c.args.node.left (sym c.is_flag.ensures ∙ c.if-is_flag.false)).0)

pub advance_then-returns-in-Decided-True-default : goal.advance_then-returns-in-Decided-True-default
advance_then-returns-in-Decided-True-default measure c =
    let nodes = c.args.self.now.nodes.now in
    let run = c.args.run.now in
    let hist = c.args.self.now.history.now in
    let left = c.args.node.left in
    let node = c.args.node.word in
    let b = c.args.self.now.flag in
    let env = c.args.variables.now in
    let s = c.args.s in
    let t = c.args.self.now.t in
    let at = c.in-Decided-True-default in
    let mid = c.advance_part-first.new.run in
    let end = c.advance.new.run in
    subst (λ (n : ℕ). Advanced (then_node (tree_at left nodes (node + 12)) (tree_at left nodes n)) hist b env s t run c.advance.result (put_mid 4 (length mid - 4) mid end)) c.node_word.ensures
    (then_true (tree_at left nodes (node + 12)) (tree_at left nodes c.node_word.result) hist b env s t run mid c.advance_part-first.result c.advance.result _ _ end (take (length mid - 4) (drop 4 mid)) (put_mid 4 (length mid - 4) mid end) c.advance_part-first.ensures at.is (rw at.is at at.field-0-is)
    (omega (arith, (fit_first c.requires.1).ordered, c.advance_part-first.auto.run)) (tail_take mid) c.advance.ensures refl)

pub advance_then-returns-in-Open : goal.advance_then-returns-in-Open
advance_then-returns-in-Open measure c =
    let nodes = c.args.self.now.nodes.now in
    let run = c.args.run.now in
    let hist = c.args.self.now.history.now in
    let left = c.args.node.left in
    let node = c.args.node.word in
    let b = c.args.self.now.flag in
    let env = c.args.variables.now in
    let s = c.args.s in
    let t = c.args.self.now.t in
    then_open (tree_at left nodes (node + 12)) (tree_at left nodes (get_or nodes (node + 7) 0)) hist b env s t run c.advance_part-first.new.run c.advance_part-first.result c.advance_part-first.ensures c.in-Open.is

pub advance_then-returns-in-Decided-False-default : goal.advance_then-returns-in-Decided-False-default
advance_then-returns-in-Decided-False-default measure c =
    let nodes = c.args.self.now.nodes.now in
    let run = c.args.run.now in
    let hist = c.args.self.now.history.now in
    let left = c.args.node.left in
    let node = c.args.node.word in
    let b = c.args.self.now.flag in
    let env = c.args.variables.now in
    let s = c.args.s in
    let t = c.args.self.now.t in
    let at = c.in-Decided-False-default in
    subst (λ (o : Outcome). Advanced (then_node (tree_at left nodes (node + 12)) (tree_at left nodes (get_or nodes (node + 7) 0))) hist b env s t run o c.advance_part-first.new.run) (sym at.is)
    (then_false (tree_at left nodes (node + 12)) (tree_at left nodes (get_or nodes (node + 7) 0)) hist b env s t run c.advance_part-first.new.run c.advance_part-first.result at.field-0 at.field-1 c.advance_part-first.ensures at.is (rw at.is at at.field-0-is))

pub advance-unreachable-requires : goal.advance-unreachable-requires
advance-unreachable-requires measure c =
    let parts = has_parts c.args.self.now.nodes.now c.args.node.word c.args.node.left (sym c.is_flag.ensures ∙ c.if-is_flag.false) in
    let word : IsCode (get_or c.args.self.now.nodes.now (c.args.node.word + 0) 0) Flag = rw c.in-Flag.is at c.code_at.ensures in
    omega (arith, parts.1.0, parts.1.1, word.0, word.1, word.2, word.3)

pub advance-advance_not-requires : goal.advance-advance_not-requires
advance-advance_not-requires measure c =
    let nodes = c.args.self.now.nodes.now in
    let run = c.args.run.now in
    let hist = c.args.self.now.history.now in
    let left = c.args.node.left in
    let node = c.args.node.word in
    let b = c.args.self.now.flag in
    let env = c.args.variables.now in
    let s = c.args.s in
    let t = c.args.self.now.t in
    let parts = has_parts nodes node left (sym c.is_flag.ensures ∙ c.if-is_flag.false) in
    let word : get_or nodes (node + 0) 0 ≡ 2 = rw c.in-Not.is at c.code_at.ensures in
    (omega arith, (parts.0, (word, c.requires)))

pub advance-advance_then-requires : goal.advance-advance_then-requires
advance-advance_then-requires measure c =
    let nodes = c.args.self.now.nodes.now in
    let run = c.args.run.now in
    let hist = c.args.self.now.history.now in
    let left = c.args.node.left in
    let node = c.args.node.word in
    let b = c.args.self.now.flag in
    let env = c.args.variables.now in
    let s = c.args.s in
    let t = c.args.self.now.t in
    let parts = has_parts nodes node left (sym c.is_flag.ensures ∙ c.if-is_flag.false) in
    let word : get_or nodes (node + 0) 0 ≡ 3 = rw c.in-Then.is at c.code_at.ensures in
    let is = is_then nodes node left parts.0 (λ x. omega (arith, x, word)) word in
    (omega (arith, parts.0), (omega (arith, word_in nodes node 2 word), subst (λ (G : Tree). Fit G env t (length run)) is c.requires))

pub advance-returns-in-Then : goal.advance-returns-in-Then
advance-returns-in-Then measure c =
    let nodes = c.args.self.now.nodes.now in
    let run = c.args.run.now in
    let hist = c.args.self.now.history.now in
    let left = c.args.node.left in
    let node = c.args.node.word in
    let b = c.args.self.now.flag in
    let env = c.args.variables.now in
    let s = c.args.s in
    let t = c.args.self.now.t in
    let parts = has_parts nodes node left (sym c.is_flag.ensures ∙ c.if-is_flag.false) in
    let word : get_or nodes (node + 0) 0 ≡ 3 = rw c.in-Then.is at c.code_at.ensures in
    let is = is_then nodes node left parts.0 (λ x. omega (arith, x, word)) word in
    subst (λ (G : Tree). Advanced G hist b env s t run c.advance_then.result c.advance_then.new.run) (sym is) c.advance_then.ensures

pub advance-advance_beside-requires : goal.advance-advance_beside-requires
advance-advance_beside-requires measure c =
    let nodes = c.args.self.now.nodes.now in
    let run = c.args.run.now in
    let hist = c.args.self.now.history.now in
    let left = c.args.node.left in
    let node = c.args.node.word in
    let b = c.args.self.now.flag in
    let env = c.args.variables.now in
    let s = c.args.s in
    let t = c.args.self.now.t in
    let parts = has_parts nodes node left (sym c.is_flag.ensures ∙ c.if-is_flag.false) in
    let word : get_or nodes (node + 0) 0 ≡ 4 = rw c.in-Beside.is at c.code_at.ensures in
    let is = is_beside nodes node left parts.0 (λ x. omega (arith, x, word)) (λ x. omega (arith, x, word)) word in
    (omega (arith, parts.0), (omega (arith, word_in nodes node 3 word), subst (λ (G : Tree). Fit G env t (length run)) is c.requires))

pub advance-returns-in-Beside : goal.advance-returns-in-Beside
advance-returns-in-Beside measure c =
    let nodes = c.args.self.now.nodes.now in
    let run = c.args.run.now in
    let hist = c.args.self.now.history.now in
    let left = c.args.node.left in
    let node = c.args.node.word in
    let b = c.args.self.now.flag in
    let env = c.args.variables.now in
    let s = c.args.s in
    let t = c.args.self.now.t in
    let parts = has_parts nodes node left (sym c.is_flag.ensures ∙ c.if-is_flag.false) in
    let word : get_or nodes (node + 0) 0 ≡ 4 = rw c.in-Beside.is at c.code_at.ensures in
    let is = is_beside nodes node left parts.0 (λ x. omega (arith, x, word)) (λ x. omega (arith, x, word)) word in
    subst (λ (G : Tree). Advanced G hist b env s t run c.advance_beside.result c.advance_beside.new.run) (sym is) c.advance_beside.ensures

pub advance-advance_range-requires : goal.advance-advance_range-requires
advance-advance_range-requires measure c =
    let nodes = c.args.self.now.nodes.now in
    let run = c.args.run.now in
    let hist = c.args.self.now.history.now in
    let left = c.args.node.left in
    let node = c.args.node.word in
    let b = c.args.self.now.flag in
    let env = c.args.variables.now in
    let s = c.args.s in
    let t = c.args.self.now.t in
    let parts = has_parts nodes node left (sym c.is_flag.ensures ∙ c.if-is_flag.false) in
    let word : get_or nodes (node + 0) 0 ≡ 5 = rw c.in-ForAll.is at c.code_at.ensures in
    let is = is_range nodes node left parts.0 (λ x. omega (arith, x, word)) (λ x. omega (arith, x, word)) (λ x. omega (arith, x, word)) word in
    (omega (arith, parts.0), (omega (arith, word_in nodes node 4 word), subst (λ (G : Tree). Fit G env t (length run)) is c.requires))

pub advance-returns-in-ForAll : goal.advance-returns-in-ForAll
advance-returns-in-ForAll measure c =
    let nodes = c.args.self.now.nodes.now in
    let run = c.args.run.now in
    let hist = c.args.self.now.history.now in
    let left = c.args.node.left in
    let node = c.args.node.word in
    let b = c.args.self.now.flag in
    let env = c.args.variables.now in
    let s = c.args.s in
    let t = c.args.self.now.t in
    let parts = has_parts nodes node left (sym c.is_flag.ensures ∙ c.if-is_flag.false) in
    let word : get_or nodes (node + 0) 0 ≡ 5 = rw c.in-ForAll.is at c.code_at.ensures in
    let is = is_range nodes node left parts.0 (λ x. omega (arith, x, word)) (λ x. omega (arith, x, word)) (λ x. omega (arith, x, word)) word in
    subst (λ (G : Tree). Advanced G hist b env s t run c.advance_range.result c.advance_range.new.run) (sym is) c.advance_range.ensures
