-- Laws of a run of nots.
use Prim.Native.Nat.{ℕ, zero, suc, ◌+◌, ◌-◌, ◌≤◌, ◌<◌}
use mathlib.Core.Path.{◌≡◌, refl, sym, ap, ◌∙◌, subst}
use mathlib.Core.Bool.{Bool, not}
use mathlib.Core.List.{List}
use native.Mathlib.Omega.{arith}
use native.Mathlib.Decide.{ℕ_discrete}
use native.Mathlib.Numerals.{unary_clauses}
use lib.ListN.{get_or}
use borrow.Author.Tests.{eq-eqb, ne_eqb}
use Rattle.nodes.specs.declared.operand.Operand.{Operand}
use Rattle.nodes.specs.Nots.{past_nots}

module _ (ns : List ℕ) where
  -- a not; another formula; none left
  pub at_not : (left i : ℕ) (odd : Bool) → get_or ns (i + 0) 0 ≡ 2 → past_nots (suc left) ns i odd ≡ past_nots left ns (i + 12) (not odd)
  unfolding past_nots
  at_not left i odd c = simp (eq-eqb (get_or ns (i + 0) 0) 2 c)

  pub at_other : (left i : ℕ) (odd : Bool) → (get_or ns (i + 0) 0 ≡ 2 → ⊥) → past_nots (suc left) ns i odd ≡ record { left = suc left; node = i; odd = odd }
  unfolding past_nots
  at_other left i odd c = simp (ne_eqb (get_or ns (i + 0) 0) 2 c)

  pub at_end : (i : ℕ) (odd : Bool) → past_nots zero ns i odd ≡ record { left = zero; node = i; odd = odd }
  unfolding past_nots
  at_end i odd = refl

  -- The same of formulas left as the code counts them: a not is passed; under the nots, and with none left, the run ends.
  pub one_passed : (left i : ℕ) (odd : Bool) → 0 < left → get_or ns (i + 0) 0 ≡ 2 → past_nots left ns i odd ≡ past_nots (left - 1) ns (i + 12) (not odd)
  one_passed zero i odd h c = absurd (omega arith)
  one_passed (suc left) i odd h c = simp unary_clauses (at_not left i odd c)

  pub run_over : (u : Operand) → (get_or ns (u.node + 0) 0 ≡ 2 → ⊥) → past_nots u.left ns u.node u.odd ≡ u
  run_over u c = elim u.left as (λ (n : ℕ). past_nots n ns u.node u.odd ≡ record { left = n; node = u.node; odd = u.odd }) [
    | zero ↦ at_end u.node u.odd
    | suc n ↦ at_other n u.node u.odd c
  ]

  pub none_left : (u : Operand) → u.left ≡ 0 → past_nots u.left ns u.node u.odd ≡ u
  none_left u e = rw e (at_end u.node u.odd)

  -- What one not passes on upward, a run of nots passes on: from the formula u under it to the one at word i.
  pub over_nots : (P : Bool → ℕ → ℕ → Type 0) → ((odd : Bool) (left i : ℕ) → get_or ns (i + 0) 0 ≡ 2 → P (not odd) left (i + 12) → P odd (suc left) i)
      → (left i : ℕ) (odd : Bool) (u : Operand) → u ≡ past_nots left ns i odd → P u.odd u.left u.node → P odd left i
  over_nots P step zero i odd u e = subst (λ (x : Operand). P x.odd x.left x.node) (e ∙ at_end i odd)
  over_nots P step (suc left) i odd u e = elim (ℕ_discrete (get_or ns (i + 0) 0) 2) [
    | yes c ↦ λ p. step odd left i c (over_nots P step left (i + 12) (not odd) u (e ∙ at_not left i odd c) p)
    | no c ↦ subst (λ (x : Operand). P x.odd x.left x.node) (e ∙ at_other left i odd c)
  ]

  -- Under the nots no more formulas are left than above, fewer where a not stands; and no not stands there.
  pub nots_left : (left i : ℕ) (odd : Bool) (u : Operand) → u ≡ past_nots left ns i odd → u.left ≤ left
  nots_left left i odd u e = over_nots (λ o n j. u.left ≤ n) (λ o n j c h. omega arith) left i odd u e (omega arith)

  pub nots_less : (left i : ℕ) (odd : Bool) (u : Operand) → u ≡ past_nots left ns i odd → (left ≡ 0 → ⊥) → get_or ns (i + 0) 0 ≡ 2 → u.left < left
  nots_less zero i odd u e h c = absurd (h refl)
  nots_less (suc left) i odd u e h c = omega (arith, nots_left left (i + 12) (not odd) u (e ∙ at_not left i odd c))

  pub nots_end : (left i : ℕ) (odd : Bool) (u : Operand) → u ≡ past_nots left ns i odd → (u.left ≡ 0 → ⊥) → get_or ns (u.node + 0) 0 ≡ 2 → ⊥
  nots_end zero i odd u e h = absurd (h (ap (λ (x : Operand). x.left) (e ∙ at_end i odd)))
  nots_end (suc left) i odd u e h = elim (ℕ_discrete (get_or ns (i + 0) 0) 2) [
    | yes c ↦ nots_end left (i + 12) (not odd) u (e ∙ at_not left i odd c) h
    | no c ↦ λ d. c (ap (λ (x : Operand). get_or ns (x.node + 0) 0) (sym (e ∙ at_other left i odd c)) ∙ d)
  ]
