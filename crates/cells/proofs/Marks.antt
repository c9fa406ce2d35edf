-- Laws of an outcome in two words of a cell. Lists only.
use Prim.Native.Nat.{ℕ, ◌+◌, ◌-◌, ◌≤◌, ◌<◌, ◌%◌}
use mathlib.Core.Path.{◌≡◌, refl, sym, ap, ◌∙◌}
use mathlib.Core.Logic.{◌≢◌}
use mathlib.Core.List.{List}
use native.Mathlib.Omega.{arith}
use native.Mathlib.Nat.{mod-eq_of_lt}
use lib.ListN.{length, drop, set, get_or, length-set}
use lib.Seq.{get_or-set_same, get_or-set_other, drop-set-lt}
use Rattle.rule.specs.declared.Verdict.{Verdict}
use Rattle.rule.specs.declared.Verdict.TheVariants.{True, False}
use Rattle.rule.specs.declared.Outcome.{Outcome}
use Rattle.rule.specs.declared.Outcome.TheVariants.{Decided, Open}
use Rattle.cells.specs.Cells.{held, mark, since, step_after}

-- the steps that fit a word, counted from p, of a tick that steps take
pub record Small (p : ℕ) (o : Outcome) : Type 0 where
  pub from : (v : Verdict) (d : ℕ) → o ≡ Decided v d → p ≤ d
  pub small : (v : Verdict) (d : ℕ) → o ≡ Decided v d → d < p + 4294967296
  pub low : (v : Verdict) (d : ℕ) → o ≡ Decided v d → d < 4611686018427387904

-- two words written, the first last
module _ (l : List ℕ) (k x y : ℕ) where
  two_length : length (set (set l (k + 2) x) k y) ≡ length l
  two_length = simp length-set

  two_other : (n : ℕ) → n ≢ k → n ≢ k + 2 → get_or (set (set l (k + 2) x) k y) n 0 ≡ get_or l n 0
  two_other n h g = get_or-set_other (set l (k + 2) x) k n y 0 h ∙ get_or-set_other l (k + 2) n x 0 g

  pub two_drop : (b : ℕ) → k + 2 < b → drop b (set (set l (k + 2) x) k y) ≡ drop b l
  two_drop b h = drop-set-lt b (set l (k + 2) x) k y (omega arith) ∙ drop-set-lt b l (k + 2) x h

  pub two_first : k < length l → get_or (set (set l (k + 2) x) k y) k 0 ≡ y
  two_first h = let g : k < length (set l (k + 2) x) = simp length-set h in get_or-set_same (set l (k + 2) x) k y 0 g

  pub two_second : k + 2 < length l → get_or (set (set l (k + 2) x) k y) (k + 2) 0 ≡ x
  two_second h = get_or-set_other (set l (k + 2) x) k (k + 2) y 0 (omega arith) ∙ get_or-set_same l (k + 2) x 0 h

pub mark_length : (p k : ℕ) (o : Outcome) (l : List ℕ) → length (mark p k o l) ≡ length l
unfolding mark
mark_length p k Open l = simp length-set
mark_length p k (Decided True d) l = two_length l k (since p d) 1
mark_length p k (Decided False d) l = two_length l k (since p d) 2

pub mark_drop : (p k : ℕ) (o : Outcome) (l : List ℕ) (b : ℕ) → k + 2 < b → drop b (mark p k o l) ≡ drop b l
unfolding mark
mark_drop p k Open l b h = drop-set-lt b l k 0 (omega arith)
mark_drop p k (Decided True d) l b h = two_drop l k (since p d) 1 b h
mark_drop p k (Decided False d) l b h = two_drop l k (since p d) 2 b h

pub mark_other : (p k : ℕ) (o : Outcome) (l : List ℕ) (n : ℕ) → n ≢ k → n ≢ k + 2 → get_or (mark p k o l) n 0 ≡ get_or l n 0
unfolding mark
mark_other p k Open l n h g = get_or-set_other l k n 0 0 h
mark_other p k (Decided True d) l n h g = two_other l k (since p d) 1 n h g
mark_other p k (Decided False d) l n h g = two_other l k (since p d) 2 n h g

since_back : (p d : ℕ) → p ≤ d → d < p + 4294967296 → d < 4611686018427387904 → step_after p (since p d) ≡ d
since_back p d h g low = let e : (d - p) % 4294967296 ≡ d - p = mod-eq_of_lt (omega arith) in omega arith

pub mark_held : (p k : ℕ) (o : Outcome) (l : List ℕ) → k + 2 < length l → Small p o
    → o ≡ held p (get_or (mark p k o l) k 0) (get_or (mark p k o l) (k + 2) 0)
unfolding mark held
mark_held p k Open l h f = simp (get_or-set_same l k 0 0 (omega arith))
mark_held p k (Decided True d) l h f =
    simp (two_first l k (since p d) 1 (omega arith), two_second l k (since p d) 1 h)
    (ap (λ (n : ℕ). Decided True n) (sym (since_back p d (f.from True d refl) (f.small True d refl) (f.low True d refl))))
mark_held p k (Decided False d) l h f =
    simp (two_first l k (since p d) 2 (omega arith), two_second l k (since p d) 2 h)
    (ap (λ (n : ℕ). Decided False n) (sym (since_back p d (f.from False d refl) (f.small False d refl) (f.low False d refl))))
