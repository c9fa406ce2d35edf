-- `figures::measure::measure_at` meets its contract: each arm is one law of proofs/Arms.antt about the formula `operand` under the nots, and
-- `under_nots` says it of the formula at word `node`.
use Rattle.std.proofs.Common.{◌⊎◌, inl, inr, arith, ◌+◌, ◌-◌, ◌≡◌, ℕ, sym, ap, subst, ◌∙◌}
use Rattle.rule.specs.Figures.{larger}
use Rattle.nodes.specs.Codes.{IsCode}
use Rattle.nodes.specs.declared.codes.Code.{Code}
use Rattle.nodes.specs.declared.codes.Code.TheVariants.{Flag, Not}
use Rattle.nodes.proofs.Nots.{nots_end}
use Rattle.figures.specs.Measured.{Promise}
use Rattle.figures.specs.Scopes.{inside}
use Rattle.figures.proofs.Parts.{then_is, beside_is, range_is}
use Rattle.figures.proofs.Arms.{none_left, deep_arm, flag_arm, then_arm, beside_arm, empty_arm, forall_arm, under_nots, flag_safe, joined_safe, empty_safe, range_safe}
use Rattle.figures.proofs.measure.+measure_at.Goals as goal

pub returns-then-operand-eq0 : goal.returns-then-operand-eq0
returns-then-operand-eq0 t c =
    under_nots _ _ _ _ _ _ _ _ c.skip_nots-operand.ensures (flag_safe _ c.of_flag.ensures) (none_left _ _ _ _ _ _ _ c.if-operand-eq0.true)

pub returns-in-Then : goal.returns-in-Then
returns-in-Then t c =
    let old = c.args.nodes.now in
    let u = c.skip_nots-operand.result in
    let a = c.measure_at-first in
    let b = c.measure_at-second in
    let is = then_is a.result b.result c.joined.ensures c.then_cells.ensures in
    under_nots _ _ _ _ _ _ _ _ c.skip_nots-operand.ensures (joined_safe a.result b.result c.joined.ensures (omega (arith, c.then_cells.ensures)) a.ensures.modest b.ensures.modest)
    (then_arm old u.left c.args.scope.now.depth u.node (inside c.args.scope.now) c.args.k c.if-operand-eq0.false _ a.new.nodes b.new.nodes a.result b.result
    c.joined.result c.node_word-second_node.ensures a.auto.nodes a.ensures.promise _ c.in-Then.ensures c.larger_size-start.ensures b.ensures.promise is)

pub returns-in-Beside : goal.returns-in-Beside
returns-in-Beside t c =
    let old = c.args.nodes.now in
    let u = c.skip_nots-operand.result in
    let a = c.measure_at-first-in-Beside in
    let b = c.measure_at-second-in-Beside in
    let is = beside_is a.result b.result c.joined-in-Beside.ensures c.beside_cells.ensures in
    under_nots _ _ _ _ _ _ _ _ c.skip_nots-operand.ensures (joined_safe a.result b.result c.joined-in-Beside.ensures (omega (arith, c.beside_cells.ensures)) a.ensures.modest b.ensures.modest)
    (beside_arm old u.left c.args.scope.now.depth u.node (inside c.args.scope.now) c.args.k c.if-operand-eq0.false _ a.new.nodes b.new.nodes a.result b.result
    c.joined-in-Beside.result c.node_word-second_node-in-Beside.ensures a.auto.nodes a.ensures.promise c.store.new.nodes c.in-Beside.ensures b.ensures.promise b.auto.nodes c.store.ensures is)

pub returns-then-always_empty : goal.returns-then-always_empty
returns-then-always_empty t c =
    under_nots _ _ _ _ _ _ _ _ c.skip_nots-operand.ensures (empty_safe _ c.of_empty_range.ensures)
    (empty_arm _ _ _ _ _ _ _ _ c.range_pair-pair.ensures.pair (sym c.always_empty.ensures ∙ c.if-always_empty.true) c.in-ForAll-2.ensures c.of_empty_range.ensures)

pub returns-else-always_empty : goal.returns-else-always_empty
returns-else-always_empty t c =
    let old = c.args.nodes.now in
    let u = c.skip_nots-operand.result in
    let a = c.measure_at-body in
    let s = c.store-in-ForAll-2 in
    let inner = c.with_pair-inner in
    let start = c.larger_size-start-in-ForAll-2 in
    let promise = subst (λ (m : ℕ). Promise (u.left - 1) m (u.node + 12) (inside inner.result) start.result old a.new.nodes a.result) inner.ensures.depth a.ensures.promise in
    under_nots _ _ _ _ _ _ _ _ c.skip_nots-operand.ensures (range_safe _ _ _ _ c.under_range.ensures a.ensures.modest (omega (arith, c.range_pair-pair.ensures.near)))
    (forall_arm old u.left c.args.scope.now.depth u.node (inside c.args.scope.now) c.args.k c.if-operand-eq0.false c.range_pair-pair.result c.range_pair-pair.ensures.pair
    (sym c.always_empty.ensures ∙ c.if-always_empty.false) c.in-ForAll-2.ensures start.result (start.ensures ∙ ap (larger c.args.k) c.range_delay.ensures) (inside inner.result) inner.ensures.pairs
    a.new.nodes s.new.nodes a.result c.under_range.result a.auto.nodes s.ensures (range_is c.range_pair-pair.result c.args.k a.result c.under_range.ensures c.range_history.ensures) promise)

pub returns-in-ForAll : goal.returns-in-ForAll
returns-in-ForAll t c =
    under_nots _ _ _ _ _ _ _ _ c.skip_nots-operand.ensures (flag_safe _ c.of_flag-in-ForAll.ensures) (deep_arm _ _ _ _ _ _ _ c.in-ForAll.ensures c.if-scope-ge-NESTED.true)

-- under the nots no not stands
plain : (word : ℕ) (code : Code) → IsCode word code → (code ≡ Flag) ⊎ (code ≡ Not) → (word ≡ 2 → ⊥) → IsCode word Flag
plain word code is (inl e) no_not = subst (IsCode word) e is
plain word code is (inr e) no_not = absurd (no_not (subst (IsCode word) e is))

pub returns-in-Flag : goal.returns-in-Flag
returns-in-Flag t c =
    let f = plain _ _ c.code_at.ensures c.in-Flag.is (nots_end _ _ _ _ _ c.skip_nots-operand.ensures c.if-operand-eq0.false) in
    under_nots _ _ _ _ _ _ _ _ c.skip_nots-operand.ensures (flag_safe _ c.of_flag-in-Flag.ensures) (flag_arm _ _ _ _ _ _ _ f.0 f.1 f.2 f.3 c.of_flag-in-Flag.ensures)
