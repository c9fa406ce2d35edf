-- The formula read off a table, by the code of its node.
use Prim.Native.Nat.{ℕ, zero, suc, ◌+◌, ◌-◌}
use mathlib.Core.Path.{◌≡◌, refl, ap, ◌∙◌}
use mathlib.Core.List.{List}
use native.Mathlib.Omega.{arith}
use lib.ListN.{get_or}
use borrow.Author.Tests.{ne_eqb}
use Rattle.rule.specs.Formula.{flag, negate, then, beside}
use Rattle.nodes.specs.Table.{formula_in}
use Rattle.nodes.proofs.Nodes.{some_left}
use Rattle.naming.specs.Ranges.{forall_of_node}

pub none_in : (left : ℕ) (ns : List ℕ) (m i : ℕ) → left ≡ 0 → formula_in left ns m i ≡ flag 0 0
unfolding formula_in
none_in zero ns m i e = refl
none_in (suc left) ns m i e = absurd (omega arith)

pub negate_next : (left : ℕ) (ns : List ℕ) (m i : ℕ) → get_or ns (i + 0) 0 ≡ 2 → formula_in (suc left) ns m i ≡ negate (formula_in left ns m (i + 12))
unfolding formula_in
negate_next left ns m i e = simp e

module _ (left : ℕ) (ns : List ℕ) (m i : ℕ) (some : left ≡ 0 → ⊥) where
  step : formula_in left ns m i ≡ formula_in (suc (left - 1)) ns m i
  step = ap (λ (n : ℕ). formula_in n ns m i) (some_left some)

  pub negate_in : get_or ns (i + 0) 0 ≡ 2 → formula_in left ns m i ≡ negate (formula_in (left - 1) ns m (i + 12))
  negate_in e = step ∙ negate_next (left - 1) ns m i e

  pub then_in : {j : ℕ} → get_or ns (i + 0) 0 ≡ 3 → j ≡ get_or ns (i + 7) 0 → formula_in left ns m i ≡ then (formula_in (left - 1) ns m (i + 12)) (formula_in (left - 1) ns m j)
  unfolding formula_in
  then_in e f = step ∙ simp (e, f)

  pub beside_in : {j : ℕ} → get_or ns (i + 0) 0 ≡ 4 → j ≡ get_or ns (i + 7) 0 → formula_in left ns m i ≡ beside (formula_in (left - 1) ns m (i + 12)) (formula_in (left - 1) ns m j)
  unfolding formula_in
  beside_in e f = step ∙ simp (e, f)

  pub range_in : get_or ns (i + 0) 0 ≡ 5 → formula_in left ns m i ≡ forall_of_node (left - 1) ns m i
  unfolding formula_in
  range_in e = step ∙ simp e

  pub flag_in : {v k : ℕ} → (get_or ns (i + 0) 0 ≡ 2 → ⊥) → (get_or ns (i + 0) 0 ≡ 3 → ⊥) → (get_or ns (i + 0) 0 ≡ 4 → ⊥) → (get_or ns (i + 0) 0 ≡ 5 → ⊥)
      → v ≡ get_or ns (i + 1) 0 → k ≡ get_or ns (i + 2) 0 → formula_in left ns m i ≡ flag v k
  unfolding formula_in
  flag_in a b c d e f = step ∙ simp (ne_eqb (get_or ns (i + 0) 0) 2 a, ne_eqb (get_or ns (i + 0) 0) 3 b, ne_eqb (get_or ns (i + 0) 0) 4 c, ne_eqb (get_or ns (i + 0) 0) 5 d, e, f)
