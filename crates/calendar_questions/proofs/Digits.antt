-- The binary digits of a word under a shift, a mask and the three counts of its bits.
use mathlib.Core.Path.{◌≡◌, refl, sym, ap, ◌∙◌, subst}
use mathlib.Core.Bool.{true, false}
use Prim.Native.Nat.{ℕ, zero, suc, ◌+◌, ◌-◌, ◌/◌, ◌%◌, ◌^◌, ◌≤◌, ◌<◌}
use native.Mathlib.Nat.{mod-lt, div-one, div-eq_of_lt-le, lt_of_lt_of_le, one-mul, pow-suc, mul_comm, le_of_suc-le-suc, zero-lt-suc}
use native.Mathlib.Omega.{arith}
use native.Mathlib.Numerals.{add-one, one-add}
use lib.Dec.{eqb}
use lib.Arith.{lt-one}
use lib.Pow.{pow_mono, shr-shr, shr_lt, field, mod-mod-pow, ones_split, ones_lt, high}
use lib.Bits.{bit_and, and_mask}
use lib.Count.{count_leading_zeros, leading_top, count_trailing_zeros, under}
use Rattle.rule.specs.Meaning.{up}
use Rattle.calendar.specs.Search.{one_if}
use Rattle.calendar.proofs.Marking.{up_above}

-- ---- a digit after a shift, and under a mask of the d low digits

pub up_shr : (w i j : ℕ) → up j (w / 2 ^ i) ≡ up (i + j) w
unfolding up
up_shr w i j = ap (λ (x : ℕ). eqb (x % 2) 1) (shr-shr w i j)

pub up_half : (w j : ℕ) → up j (w / 2) ≡ up (suc j) w
up_half w j = up_shr w 1 j ∙ ap (λ (x : ℕ). up x w) (one-add j)

pub up_lowest : (w : ℕ) → up 0 w ≡ eqb (w % 2) 1
unfolding up
up_lowest w = ap (λ (x : ℕ). eqb (x % 2) 1) (div-one w)

up_low : (n e j : ℕ) → up j (n % 2 ^ ((e + 1) + j)) ≡ up j n
unfolding up
up_low n e j = ap (λ (x : ℕ). eqb (x % 2) 1) (field n (e + 1) j) ∙ ap (λ (x : ℕ). eqb x 1) (mod-mod-pow (n / 2 ^ j) e 1)

pub up_mod : (n d j : ℕ) → j < d → up j (n % 2 ^ d) ≡ up j n
up_mod n d j h =
    let e : d ≡ ((d - j - 1) + 1) + j = omega arith in ap (λ (x : ℕ). up j (n % 2 ^ x)) e ∙ up_low n (d - j - 1) j

-- `(w >> i) & (u64::MAX >> (64 - d))`: the d digits from i on
ones_shr : (j k : ℕ) → (2 ^ (j + k) - 1) / 2 ^ k ≡ 2 ^ j - 1
ones_shr j k = ap (λ (x : ℕ). x / 2 ^ k) (ones_split j k) ∙ high (2 ^ j - 1) k (ones_lt k)

pub mask_word : (w d : ℕ) → d ≤ 64 → bit_and w ((2 ^ 64 - 1) / 2 ^ (64 - d)) ≡ w % 2 ^ d
mask_word w d h =
    let e : 64 ≡ d + (64 - d) = omega arith in
    ap (bit_and w) (ap (λ (x : ℕ). (2 ^ x - 1) / 2 ^ (64 - d)) e ∙ ones_shr d (64 - d)) ∙ and_mask w d

-- ---- the lowest digit

two_pos : zero < 2
two_pos = zero-lt-suc 1

digit : (r : ℕ) → r < 2 → one_if (eqb r 1) ≡ r
digit zero h = refl
digit (suc zero) h = refl
digit (suc (suc r)) h = absurd (omega arith)

pub lowest : (w : ℕ) → one_if (up 0 w) ≡ w % 2
lowest w = ap one_if (up_lowest w) ∙ digit (w % 2) (mod-lt w two_pos)

pub half_lt : (m d : ℕ) → m < 2 ^ suc d → m / 2 < 2 ^ d
half_lt m d h = shr_lt d 1 (subst (λ (x : ℕ). m < 2 ^ x) (sym (add-one d)) h)

-- ---- `trailing_zeros`: the place of the lowest digit that is set

pub trailing_up : (k m : ℕ) → 0 < m → m < 2 ^ k → up (count_trailing_zeros k m) m ≡ true
unfolding count_trailing_zeros
trailing_up zero m p h = absurd (let e : m ≡ 0 = lt-one h in omega arith)
trailing_up (suc k) m p h = go (m % 2) refl (λ q. trailing_up k (m / 2) q (half_lt m k h))
  where
    go : (r : ℕ) → m % 2 ≡ r → (0 < m / 2 → up (count_trailing_zeros k (m / 2)) (m / 2) ≡ true) → up (under r (count_trailing_zeros k (m / 2))) m ≡ true
    go zero e rest = sym (up_half m (count_trailing_zeros k (m / 2))) ∙ rest (omega arith)
    go (suc zero) e rest = up_lowest m ∙ ap (λ (x : ℕ). eqb x 1) e
    go (suc (suc r)) e rest = absurd (omega arith)

pub trailing_below : (k m j : ℕ) → j < count_trailing_zeros k m → up j m ≡ false
unfolding count_trailing_zeros
trailing_below zero m j h = absurd (omega arith)
trailing_below (suc k) m j h = go (m % 2) j refl h (λ i l. trailing_below k (m / 2) i l)
  where
    go : (r i : ℕ) → m % 2 ≡ r → i < under r (count_trailing_zeros k (m / 2)) → ((n : ℕ) → n < count_trailing_zeros k (m / 2) → up n (m / 2) ≡ false)
        → up i m ≡ false
    go zero zero e l rest = up_lowest m ∙ ap (λ (x : ℕ). eqb x 1) e
    go zero (suc i) e l rest = sym (up_half m i) ∙ rest i (le_of_suc-le-suc l)
    go (suc r) i e l rest = absurd (omega arith)

-- ---- `leading_zeros`: the place of the highest digit that is set

pub record Top (m j : ℕ) : Type 0 where
  pub below : m < 2 ^ suc j
  pub set : up j m ≡ true
  pub above : (i : ℕ) → j < i → up i m ≡ false

one_over : (m j : ℕ) → 2 ^ j ≤ m → m < 2 ^ suc j → m / 2 ^ j ≡ 1
one_over m j l h =
    div-eq_of_lt-le (2 ^ j) (subst (λ (x : ℕ). x ≤ m) (sym (one-mul (2 ^ j))) l) (subst (λ (x : ℕ). m < x) (pow-suc 2 j ∙ mul_comm (2 ^ j) 2) h)

pub leading_up : (m : ℕ) → 0 < m → m < 2 ^ 64 → Top m (63 - count_leading_zeros 64 m)
unfolding up
leading_up m p h =
    let t = leading_top 64 m p h in
    let e : t.0 ≡ 63 - count_leading_zeros 64 m = omega (arith, t.1) in
    subst (λ (j : ℕ). Top m j) e (record {
      below = t.3;
      set = ap (λ (x : ℕ). eqb (x % 2) 1) (one_over m t.0 t.2 t.3);
      above = λ i l. up_above m i (lt_of_lt_of_le t.3 (pow_mono l));
    })
