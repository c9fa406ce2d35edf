-- Laws of the head cell of a range.
use Prim.Native.Nat.{ℕ, ◌+◌, ◌-◌, ◌≤◌, ◌<◌, ◌%◌}
use mathlib.Core.Path.{◌≡◌, refl, sym, ◌∙◌}
use mathlib.Core.Bool.{Bool, true, false, cond}
use native.Mathlib.Omega.{arith}
use native.Mathlib.Nat.{mod-eq_of_lt}
use native.Mathlib.Decide.{dec_lt}
use borrow.Author.Tests.{le-leb, lt-leb, eq-eqb, ne_eqb}
use lib.Dec.{eqb, leb}
use Rattle.cells.specs.Cells.{since, step_after}
use Rattle.cells.specs.Heads.{latest_of, leading_of}

-- ---- what the words say: one law for each way out of `head_of`

module _ (p s t n l d : ℕ) where
  pub head_start : t ≡ s → (0 ≡ leading_of s t n l) × (s ≡ latest_of p s 0 d)
  unfolding leading_of latest_of
  head_start h = (simp (eq-eqb t s h), refl)

  pub head_none : (t ≡ s → ⊥) → l ≡ 0 → (0 ≡ leading_of s t n l) × (s ≡ latest_of p s 0 d)
  unfolding leading_of latest_of
  head_none h g = (simp (ne_eqb t s h, g, le-leb 0 n (omega arith)), refl)

  pub head_far : (t ≡ s → ⊥) → n < l → (0 ≡ leading_of s t n l) × (s ≡ latest_of p s 0 d)
  unfolding leading_of latest_of
  head_far h g = (simp (ne_eqb t s h, lt-leb l n g), refl)

  pub head_there : (y : ℕ) → y ≡ step_after p d → (t ≡ s → ⊥) → (l ≡ 0 → ⊥) → l ≤ n → (l ≡ leading_of s t n l) × (y ≡ latest_of p s l d)
  unfolding leading_of latest_of
  head_there y e h g k = (simp (ne_eqb t s h, le-leb l n k), simp (ne_eqb l 0 g) e)

-- ---- how many leading positions a step leaves alone

module _ (s t n w : ℕ) where
  pub leading_start : t ≡ s → leading_of s t n w ≡ 0
  unfolding leading_of
  leading_start h = simp (eq-eqb t s h)

  pub leading_kept : (t ≡ s → ⊥) → w ≤ n → leading_of s t n w ≡ w
  unfolding leading_of
  leading_kept h g = simp (ne_eqb t s h, le-leb w n g)

  pub leading_least : leading_of s t n w ≤ n
  unfolding leading_of
  leading_least = go (eqb t s)
    where
      go : (b : Bool) → cond b 0 (cond (leb w n) w 0) ≤ n
      go true = omega arith
      go false = elim (dec_lt n w) [ yes l ↦ rw (lt-leb w n l) (omega arith) | no l ↦ rw (le-leb w n (omega arith)) (omega arith) ]

-- the latest that was written is the latest
pub latest_back : (p s t l m w d : ℕ) → w ≡ l → d ≡ since p m → (l ≡ 0 → m ≡ s) → ((l ≡ 0 → ⊥) → p ≤ m) → m ≤ t → t < p + 4294967296 → t < 4611686018427387904 → m ≡ latest_of p s w d
unfolding latest_of
latest_back p s t l m w d ew ed h g i j low = elim (dec_lt 0 w) [
  | no k ↦ let z : w ≡ 0 = omega arith in simp (eq-eqb w 0 z) (h (sym ew ∙ z))
  | yes k ↦
      let pm : p ≤ m = g (λ z. omega arith) in
      let e : (m - p) % 4294967296 ≡ m - p = mod-eq_of_lt (omega arith) in
      simp (ne_eqb w 0 (λ z. omega arith)) (omega arith)
]
