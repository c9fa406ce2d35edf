-- Whether the formula of a table names a variable, by the code of its node.
use Prim.Native.Nat.{ℕ, ◌+◌, ◌-◌, ◌≤◌, ◌<◌}
use mathlib.Core.Path.{◌≡◌, refl, sym, ap, ◌∙◌, subst}
use mathlib.Core.Bool.{Bool, true, false, ◌||◌}
use mathlib.Core.List.{List}
use mathlib.Core.Logic.{◌⊎◌, inl, inr}
use native.Mathlib.Omega.{arith}
use lib.Dec.{eqb}
use lib.ListN.{get_or}
use borrow.Author.Tests.{lt-ltb, le-ltb, eq-eqb, ne_eqb, eqb-true, eqb-false}
use Rattle.rule.specs.Formula.{Formula, flag, negate, then, beside}
use Rattle.rule.specs.Naming.{bound_names, names}
use Rattle.rule.proofs.Order.{by_order}
use Rattle.nodes.specs.Codes.{IsCode, IsKind}
use Rattle.nodes.specs.declared.codes.Kind.{Kind}
use Rattle.nodes.specs.declared.codes.Kind.TheVariants.{Variable}
use Rattle.nodes.specs.declared.codes.Code.{Code}
use Rattle.nodes.specs.declared.codes.Code.TheVariants.{Flag, Then, Beside}
use Rattle.nodes.specs.Table.{bound_of, bound_at, formula_in}
use Rattle.naming.specs.Ranges.{forall_of_node}
use Rattle.naming.proofs.Nodes.{then_in, beside_in, flag_in}

-- ---- one of two

-- w is "a or b": what is known of w once a is tested.
abbrev pub Either : Bool → Bool → Bool → Type 0
Either w a b = (a ≡ true → true ≡ w) × (a ≡ false → b ≡ w)

either : (w a b : Bool) → w ≡ (a || b) → Either w a b
either w a b e = (λ h. sym (e ∙ ap (λ (x : Bool). x || b) h), λ h. sym (e ∙ ap (λ (x : Bool). x || b) h))

-- ---- a bound

-- only one of kind 2 has a variable
pub none_named_at : (ns : List ℕ) (j v : ℕ) → get_or ns (j + 0) 0 ≤ 1 → bound_names v (bound_at ns j) ≡ false
unfolding bound_at bound_of bound_names
none_named_at ns j v h = go (by_order (get_or ns (j + 0) 0) 0)
  where
    go : (get_or ns (j + 0) 0 ≤ 0) ⊎ (0 < get_or ns (j + 0) 0) → bound_names v (bound_at ns j) ≡ false
    go (inl k) = simp (eq-eqb (get_or ns (j + 0) 0) 0 (omega arith))
    go (inr k) = simp (ne_eqb (get_or ns (j + 0) 0) 0 (λ z. omega arith), eq-eqb (get_or ns (j + 0) 0) 1 (omega arith))

pub variable_at : (ns : List ℕ) (j v : ℕ) {w : ℕ} {kind : Kind} → IsKind (get_or ns (j + 0) 0) kind → kind ≡ Variable → w ≡ get_or ns (j + 1) 0
    → eqb w v ≡ bound_names v (bound_at ns j)
unfolding bound_at bound_of bound_names
variable_at ns j v k e f =
    let h : IsKind (get_or ns (j + 0) 0) Variable = subst (IsKind (get_or ns (j + 0) 0)) e k in
    simp (ne_eqb (get_or ns (j + 0) 0) 0 h.0, ne_eqb (get_or ns (j + 0) 0) 1 h.1, f)

-- ---- a formula

pub named_same : (v : ℕ) {F G : Formula} {b : Bool} → F ≡ G → b ≡ names v G → b ≡ names v F
named_same v e h = h ∙ ap (names v) (sym e)

pub named_flag : (v : ℕ) {F : Formula} {w k : ℕ} → F ≡ flag w k → eqb w v ≡ names v F
unfolding names
named_flag v {F} {w} {k} e = named_same v e refl

-- flag 0 of variable 0
pub named_none : (v : ℕ) {F : Formula} → F ≡ flag 0 0 → eqb v 0 ≡ names v F
named_none v e = go (eqb v 0) refl ∙ named_flag v e
  where
    go : (b : Bool) → eqb v 0 ≡ b → eqb v 0 ≡ eqb 0 v
    go true h = h ∙ sym (eq-eqb 0 v (sym (eqb-true v 0 h)))
    go false h = h ∙ sym (ne_eqb 0 v (λ z. eqb-false v 0 h (sym z)))

pub named_negate : (v : ℕ) {F G : Formula} {b : Bool} → F ≡ negate G → b ≡ names v G → b ≡ names v F
unfolding names
named_negate v {G = G} e h = named_same v {G = negate G} e h

named_then : (v : ℕ) {F : Formula} (G H : Formula) → F ≡ then G H → Either (names v F) (names v G) (names v H)
unfolding names
named_then v {F} G H e = either (names v F) (names v G) (names v H) (ap (names v) e)

named_beside : (v : ℕ) {F : Formula} (G H : Formula) → F ≡ beside G H → Either (names v F) (names v G) (names v H)
unfolding names
named_beside v {F} G H e = either (names v F) (names v G) (names v H) (ap (names v) e)

-- a node with two parts
pub two_parts : {w : ℕ} {code : Code} → IsCode w code → (code ≡ Then) ⊎ (code ≡ Beside) → (w ≡ 3) ⊎ (w ≡ 4)
two_parts {w} h (inl e) = inl (subst (IsCode w) e h)
two_parts {w} h (inr e) = inr (subst (IsCode w) e h)

module _ (left : ℕ) (ns : List ℕ) (m i : ℕ) (some : left ≡ 0 → ⊥) where
  -- "then" or "beside"
  pub named_two : (v j : ℕ) → (get_or ns (i + 0) 0 ≡ 3) ⊎ (get_or ns (i + 0) 0 ≡ 4) → j ≡ get_or ns (i + 7) 0
      → Either (names v (formula_in left ns m i)) (names v (formula_in (left - 1) ns m (i + 12))) (names v (formula_in (left - 1) ns m j))
  named_two v j (inl e) f = named_then v (formula_in (left - 1) ns m (i + 12)) (formula_in (left - 1) ns m j) (then_in left ns m i some e f)
  named_two v j (inr e) f = named_beside v (formula_in (left - 1) ns m (i + 12)) (formula_in (left - 1) ns m j) (beside_in left ns m i some e f)

  -- a flag: no other code
  pub named_here : (v : ℕ) {w : ℕ} → IsCode (get_or ns (i + 0) 0) Flag → w ≡ get_or ns (i + 1) 0 → eqb w v ≡ names v (formula_in left ns m i)
  named_here v {w} h f = named_flag v (flag_in left ns m i some h.0 h.1 h.2 h.3 f refl)

-- a range: its bounds, then its body; inside 4 quantifiers there is none
module _ (left : ℕ) (ns : List ℕ) (m i v : ℕ) {F : Formula} (e : F ≡ forall_of_node left ns m i) where
  abbrev rest : Bool
  rest = bound_names v (bound_at ns (i + 4)) || names v (formula_in left ns (m + 1) (i + 12))

  pub named_range : m < 4 → Either (names v F) (bound_names v (bound_at ns (i + 1))) rest
  unfolding names
  named_range h = either (names v F) (bound_names v (bound_at ns (i + 1))) rest (rw (e, lt-ltb m 4 h))

  pub named_rest : Either rest (bound_names v (bound_at ns (i + 4))) (names v (formula_in left ns (m + 1) (i + 12)))
  named_rest = either rest (bound_names v (bound_at ns (i + 4))) (names v (formula_in left ns (m + 1) (i + 12))) refl

  pub named_deep : 4 ≤ m → eqb v 0 ≡ names v F
  named_deep h = named_none v (e ∙ rw (le-ltb m 4 h))
