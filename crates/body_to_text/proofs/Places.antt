-- The text of the formula at a place of the node table, by the code of its node, from the texts of its parts.
use Prim.Native.Nat.{ℕ, suc, ◌+◌, ◌-◌, ◌≤◌, ◌<◌}
use mathlib.Core.Path.{◌≡◌, ap, sym, ◌∙◌, subst}
use mathlib.Core.List.{List, [], ◌∷◌, ◌++◌}
use native.Mathlib.Numerals.{add-one}
use lib.ListN.{get_or}
use borrow.Author.Tests.{lt-ltb, le-ltb, ne_eqb}
use mathlib.Core.Logic.{◌⊎◌, inl, inr}
use Rattle.nodes.specs.Codes.{IsCode}
use Rattle.nodes.specs.declared.codes.Code.{Code}
use Rattle.nodes.specs.declared.codes.Code.TheVariants.{Then, Beside}
use Rattle.rule.specs.Formula.{Formula}
use Rattle.rule.specs.Formula as plain
use Rattle.nodes.specs.Table.{bound_at, formula_in}
use Rattle.nodes.proofs.Nodes.{some_left}
use Rattle.notation.specs.Notation.{Named, flag, formula_text, then_sign, beside_sign}
use Rattle.notation.specs.Printing.{variable_name, end_named, named}
use Rattle.body_to_text.specs.declared.formula.Place.{Place}
use Rattle.body_to_text.specs.Storing.{Adds}
use Rattle.body_to_text.specs.declared.writer.Writer.{Writer}
use Rattle.body_to_text.specs.Writable.{FlagsFit}
use Rattle.body_to_text.specs.Parts.{sign_text, range_at, formula_there, part_place, Printed}
use Rattle.body_to_text.proofs.Storing.{wrote_then, wrote_as}
use Rattle.body_to_text.proofs.Follows.{formula_follows, range_follows}

-- ---- the formula there, by the code of its node

module _ (ns : List ℕ) (p : Place) where
  none_there : p.left ≡ 0 → formula_there ns p ≡ plain.flag 0 0
  unfolding formula_in
  none_there e = rw e

  module _ (some : p.left ≡ 0 → ⊥) where
    step : formula_there ns p ≡ formula_in (suc (p.left - 1)) ns p.depth p.node
    step = ap (λ (n : ℕ). formula_in n ns p.depth p.node) (some_left some)

    not_there : get_or ns (p.node + 0) 0 ≡ 2 → formula_there ns p ≡ plain.negate (formula_in (p.left - 1) ns p.depth (p.node + 12))
    unfolding formula_in
    not_there e = step ∙ simp e

    then_there : {j : ℕ} → get_or ns (p.node + 0) 0 ≡ 3 → j ≡ get_or ns (p.node + 7) 0
        → formula_there ns p ≡ plain.then (formula_in (p.left - 1) ns p.depth (p.node + 12)) (formula_in (p.left - 1) ns p.depth j)
    unfolding formula_in
    then_there e f = step ∙ simp (e, f)

    beside_there : {j : ℕ} → get_or ns (p.node + 0) 0 ≡ 4 → j ≡ get_or ns (p.node + 7) 0
        → formula_there ns p ≡ plain.beside (formula_in (p.left - 1) ns p.depth (p.node + 12)) (formula_in (p.left - 1) ns p.depth j)
    unfolding formula_in
    beside_there e f = step ∙ simp (e, f)

    deep_there : get_or ns (p.node + 0) 0 ≡ 5 → 4 ≤ p.depth → formula_there ns p ≡ plain.flag 0 0
    unfolding formula_in
    deep_there e h = step ∙ simp (e, le-ltb p.depth 4 h)

    forall_there : get_or ns (p.node + 0) 0 ≡ 5 → p.depth < 4
        → formula_there ns p ≡ plain.forall (bound_at ns (p.node + 1)) (bound_at ns (p.node + 4)) (formula_in (p.left - 1) ns (p.depth + 1) (p.node + 12))
    unfolding formula_in
    forall_there e h = step ∙ simp (e, lt-ltb p.depth 4 h)

    flag_there : {v k : ℕ} → (get_or ns (p.node + 0) 0 ≡ 2 → ⊥) → (get_or ns (p.node + 0) 0 ≡ 3 → ⊥)
        → (get_or ns (p.node + 0) 0 ≡ 4 → ⊥) → (get_or ns (p.node + 0) 0 ≡ 5 → ⊥) → v ≡ get_or ns (p.node + 1) 0 → k ≡ get_or ns (p.node + 2) 0 → formula_there ns p ≡ plain.flag v k
    unfolding formula_in
    flag_there a b c d e f =
        step ∙ simp (ne_eqb (get_or ns (p.node + 0) 0) 2 a, ne_eqb (get_or ns (p.node + 0) 0) 3 b, ne_eqb (get_or ns (p.node + 0) 0) 4 c, ne_eqb (get_or ns (p.node + 0) 0) 5 d, e, f)

-- ---- its text

-- the same place, written otherwise
pub placed : {ns : List ℕ} {old new : Writer} {p q : Place} → q ≡ p → Printed ns q old new → Printed ns p old new
placed {ns} {old} {new} e w = subst (λ (q : Place). Printed ns q old new) e w

-- two parts in brackets, as they are stored one after another
two_text : (F G : Named) (s : List ℕ)
    → 40 ∷ (formula_text F [] ++ (s ++ (formula_text G [] ++ (41 ∷ [])))) ≡ 40 ∷ formula_text F (s ++ formula_text G (41 ∷ []))
two_text F G s =
    ap (λ (l : List ℕ). 40 ∷ (formula_text F [] ++ (s ++ l))) (sym (formula_follows G (41 ∷ [])))
    ∙ ap (λ (l : List ℕ). 40 ∷ l) (sym (formula_follows F (s ++ formula_text G (41 ∷ []))))

module _ (ns : List ℕ) (p : Place) {old new : Writer} where
  printed : (F : Formula) → formula_there ns p ≡ F → (FlagsFit F → Adds (formula_text (named p.depth F) []) old new) → Printed ns p old new
  printed F e w =
      record { stored = λ h. subst (λ (G : Formula). Adds (formula_text (named p.depth G) []) old new) (sym e) (w (subst FlagsFit e h)) }

  printed_flag : (v k : ℕ) → formula_there ns p ≡ plain.flag v k → (k ≤ 7 → Adds (formula_text (flag (variable_name v) (48 + k)) []) old new)
      → Printed ns p old new
  unfolding named FlagsFit
  printed_flag v k e w = printed (plain.flag v k) e w

  pub at_end : p.left ≡ 0 → (0 ≤ 7 → Adds (formula_text (flag (variable_name 0) (48 + 0)) []) old new) → Printed ns p old new
  at_end e w = printed_flag 0 0 (none_there ns p e) w

  module _ (some : p.left ≡ 0 → ⊥) where
    pub at_not : {mid : Writer} → get_or ns (p.node + 0) 0 ≡ 2 → Adds (126 ∷ []) old mid
        → Printed ns (part_place p p.depth (p.node + 12)) mid new → Printed ns p old new
    unfolding named FlagsFit formula_text
    at_not e a b =
        printed (plain.negate (formula_in (p.left - 1) ns p.depth (p.node + 12))) (not_there ns p some e) (λ h. wrote_then a (b.stored h))

    -- the parts of a formula with two
    module _ {j : ℕ} (where_second : j ≡ get_or ns (p.node + 7) 0) {a b c d : Writer} (open_bracket : Adds (40 ∷ []) old a)
        (first : Printed ns (part_place p p.depth (p.node + 12)) a b) where
      pub at_then : get_or ns (p.node + 0) 0 ≡ 3 → Adds then_sign b c → Printed ns (part_place p p.depth j) c d → Adds (41 ∷ []) d new → Printed ns p old new
      unfolding named FlagsFit formula_text
      at_then e sign second close_bracket =
          let F = formula_in (p.left - 1) ns p.depth (p.node + 12) in
          let G = formula_in (p.left - 1) ns p.depth j in
          printed (plain.then F G) (then_there ns p some e where_second)
          (λ k. wrote_as (two_text (named p.depth F) (named p.depth G) then_sign)
          (wrote_then open_bracket (wrote_then (first.stored k.0) (wrote_then sign (wrote_then (second.stored k.1) close_bracket)))))

      pub at_beside : get_or ns (p.node + 0) 0 ≡ 4 → Adds beside_sign b c → Printed ns (part_place p p.depth j) c d → Adds (41 ∷ []) d new → Printed ns p old new
      unfolding named FlagsFit formula_text
      at_beside e sign second close_bracket =
          let F = formula_in (p.left - 1) ns p.depth (p.node + 12) in
          let G = formula_in (p.left - 1) ns p.depth j in
          printed (plain.beside F G) (beside_there ns p some e where_second)
          (λ k. wrote_as (two_text (named p.depth F) (named p.depth G) beside_sign)
          (wrote_then open_bracket (wrote_then (first.stored k.0) (wrote_then sign (wrote_then (second.stored k.1) close_bracket)))))

    pub at_two : {code : Code} {j : ℕ} {a b c d : Writer} → IsCode (get_or ns (p.node + 0) 0) code → (code ≡ Then) ⊎ (code ≡ Beside) → j ≡ get_or ns (p.node + 7) 0
        → Adds (40 ∷ []) old a → Printed ns (part_place p p.depth (p.node + 12)) a b → Adds (sign_text code) b c → Printed ns (part_place p p.depth j) c d
        → Adds (41 ∷ []) d new → Printed ns p old new
    at_two {b = b} {c = c} i (inl e) f o x s y z = at_then f o x (rw e at i) (subst (λ (k : Code). Adds (sign_text k) b c) e s) y z
    at_two {b = b} {c = c} i (inr e) f o x s y z = at_beside f o x (rw e at i) (subst (λ (k : Code). Adds (sign_text k) b c) e s) y z

    pub at_deep : get_or ns (p.node + 0) 0 ≡ 5 → 4 ≤ p.depth → (0 ≤ 7 → Adds (formula_text (flag (variable_name 0) (48 + 0)) []) old new) → Printed ns p old new
    at_deep e h w = printed_flag 0 0 (deep_there ns p some e h) w

    pub at_range : {mid : Writer} → get_or ns (p.node + 0) 0 ≡ 5 → p.depth < 4
        → Adds (range_at ns p.node (p.depth + 1)) old mid
        → Printed ns (part_place p (p.depth + 1) (p.node + 12)) mid new → Printed ns p old new
    unfolding named FlagsFit formula_text
    at_range e h a b =
        let F = formula_in (p.left - 1) ns (p.depth + 1) (p.node + 12) in
        printed (plain.forall (bound_at ns (p.node + 1)) (bound_at ns (p.node + 4)) F) (forall_there ns p some e h)
        (λ k. wrote_as (range_is F) (wrote_then a (b.stored k)))
      where
        range_is : (F : Formula) → range_at ns p.node (p.depth + 1) ++ formula_text (named (p.depth + 1) F) []
            ≡ formula_text (named p.depth (plain.forall (bound_at ns (p.node + 1)) (bound_at ns (p.node + 4)) F)) []
        range_is F =
            rw (add-one p.depth)
            (let A = end_named (bound_at ns (p.node + 1)) in
            let B = end_named (bound_at ns (p.node + 4)) in
            sym (range_follows (variable_name (suc p.depth)) A B (formula_text (named (suc p.depth) F) [])))

    pub at_flag : {v k : ℕ} → (get_or ns (p.node + 0) 0 ≡ 2 → ⊥) × (get_or ns (p.node + 0) 0 ≡ 3 → ⊥) × (get_or ns (p.node + 0) 0 ≡ 4 → ⊥) × (get_or ns (p.node + 0) 0 ≡ 5 → ⊥)
        → v ≡ get_or ns (p.node + 1) 0 → k ≡ get_or ns (p.node + 2) 0
        → (k ≤ 7 → Adds (formula_text (flag (variable_name v) (48 + k)) []) old new) → Printed ns p old new
    at_flag {v} {k} n e f w = printed_flag v k (flag_there ns p some n.0 n.1 n.2 n.3 e f) w
