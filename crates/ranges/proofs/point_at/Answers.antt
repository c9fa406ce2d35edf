-- `ranges::point_at` meets its contract.
use Rattle.std.proofs.Common.{◌≡◌, refl, ap, ◌∙◌, ℕ, pos, ◌+ℤ◌, w64, to_z, of_z}
use Rattle.rule.specs.Formula.{Bound}
use Rattle.rule.specs.Meaning.{point}
use Rattle.rule.specs.Body.{signed}
use Rattle.rule.specs.declared.Point.TheVariants.{Whole}
use Rattle.ranges.specs.Clamped.{clamped}
use Rattle.ranges.proofs.Bounds.{bound_words, point_infinity, point_origin, point_variable, sum_in, sum_back}
use borrow.Author.Rules.{rules}
use Rattle.ranges.proofs.point_at.Goals as goal

pub returns-in-Infinity : goal.returns-in-Infinity
returns-in-Infinity c =
    let env = clamped c.args.pos.now in
    point_infinity _ _ _ env c.in-Infinity.ensures
    ∙ ap (λ (B : Bound). point B env) (bound_words c.args.nodes.now c.args.node c.args.bound c.node_word.ensures refl refl)

pub returns-in-Origin : goal.returns-in-Origin
returns-in-Origin c =
    let env = clamped c.args.pos.now in
    let e : to_z w64 (of_z w64 c.offset_of-offset.result) ≡ c.offset_of-offset.result = search rules in
    ap Whole (e ∙ c.offset_of-offset.ensures) ∙ point_origin _ _ _ env c.in-Origin.ensures
    ∙ ap (λ (B : Bound). point B env) (bound_words c.args.nodes.now c.args.node c.args.bound c.node_word.ensures refl c.node_word-bits.ensures)

pub overflow_add-result : goal.overflow_add-result
overflow_add-result c =
    let e : to_z w64 (of_z w64 c.offset_of-offset.result) ≡ c.offset_of-offset.result = search rules in
    sum_in c.position_of-position.result c.offset_of-offset.result c.node_word-bits.result
    c.position_of-position.ensures.low
    (e ∙ c.offset_of-offset.ensures)

pub returns-in-Variable : goal.returns-in-Variable
returns-in-Variable c =
    let env = clamped c.args.pos.now in
    let bits = c.node_word-bits.result in
    let e : to_z w64 (of_z w64 c.offset_of-offset.result) ≡ c.offset_of-offset.result = search rules in
    ap Whole (sum_back c.position_of-position.result c.offset_of-offset.result bits c.position_of-position.ensures.low (e ∙ c.offset_of-offset.ensures))
    ∙ ap (λ (q : ℕ). Whole (pos q +ℤ signed bits)) c.position_of-position.ensures.value
    ∙ point_variable _ _ _ env c.in-Variable.ensures.0 c.in-Variable.ensures.1
    ∙ ap (λ (B : Bound). point B env)
    (bound_words c.args.nodes.now c.args.node c.args.bound c.node_word.ensures c.node_word-variable.ensures c.node_word-bits.ensures)
