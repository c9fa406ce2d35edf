-- A node's words are written one after another, and a formula's words end where its formulas do.
use Prim.Native.Nat.{ℕ, ◌+◌, ◌*◌, ◌≤◌, ◌<◌}
use mathlib.Core.Path.{◌≡◌, ◌∙◌}
use mathlib.Core.Logic.{◌⊎◌, inl, inr}
use mathlib.Core.List.{List}
use native.Mathlib.Omega.{arith}
use lib.ListN.{length, get_or, set}
use lib.Seq.{get_or-set_same, get_or-set_other}
use Rattle.rule.specs.Formula.{Formula, flag, negate, then, beside, forall, formulas}
use Rattle.rule.proofs.Order.{by_order}
use Rattle.nodes.specs.Table.{Holds}
use Rattle.reader.specs.Written.{head_word}

-- The first k words of the node at word i are written, and no word before it changed.
abbrev pub Written : List ℕ → ℕ → ℕ → List ℕ → List ℕ → ℕ → Type 0
Written s at i old new k =
    ((j : ℕ) → j < k → get_or new (i + j) 0 ≡ head_word s at j) × ((j : ℕ) → j < i → get_or new j 0 ≡ get_or old j 0)

pub one_more : (s : List ℕ) (at i : ℕ) (old new : List ℕ) (k v : ℕ) → i + k < length new → v ≡ head_word s at k → Written s at i old new k → Written s at i old (set new (i + k) v) (k + 1)
one_more s at i old new k v room e w = (words, λ j h. get_or-set_other new (i + k) j v 0 (λ f. omega arith) ∙ w.1 j h)
  where
    words : (j : ℕ) → j < k + 1 → get_or (set new (i + k) v) (i + j) 0 ≡ head_word s at j
    words j h = go (by_order k j)
      where
        go : (k ≤ j) ⊎ (j < k) → get_or (set new (i + k) v) (i + j) 0 ≡ head_word s at j
        go (inl g) = let f : j ≡ k = omega arith in rw f (get_or-set_same new (i + k) v 0 room ∙ e)
        go (inr g) = get_or-set_other new (i + k) (i + j) v 0 (λ f. omega arith) ∙ w.0 j g

-- 12 words a formula
pub end_at : (F : Formula) (ns : List ℕ) (m i e : ℕ) → Holds F ns m i e → e ≡ i + 12 * formulas F
unfolding Holds formulas
end_at (flag v k) ns m i e h = omega arith
end_at (negate F) ns m i e h = omega (arith, end_at F ns m (i + 12) e h.1)
end_at (then F G) ns m i e h =
    omega (arith, end_at F ns m (i + 12) (get_or ns (i + 7) 0) h.1.0, end_at G ns m (get_or ns (i + 7) 0) e h.1.1)
end_at (beside F G) ns m i e h =
    omega (arith, end_at F ns m (i + 12) (get_or ns (i + 7) 0) h.1.0, end_at G ns m (get_or ns (i + 7) 0) e h.1.1)
end_at (forall B C F) ns m i e h = omega (arith, end_at F ns (m + 1) (i + 12) e h.1.1.1.1)
