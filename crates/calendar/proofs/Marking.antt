-- The digits of a word: none at or above its length, and those after a bit is set by `|`.
use mathlib.Core.Path.{◌≡◌, refl, sym, ap, ◌∙◌, subst}
use mathlib.Core.Bool.{Bool, true, false, cond}
use Prim.{⊥}
use Prim.Native.Nat.{ℕ, zero, suc, ◌+◌, ◌-◌, ◌*◌, ◌/◌, ◌%◌, ◌^◌, ◌≤◌, ◌<◌, max}
use native.Mathlib.Nat.{mod-lt, one-mul, zero-mul, mul-div_cancel, mul-mod_left, div_self, div-eq_of_lt, pow-suc, mul-add-mod_self_right, mod-eq_of_lt}
use native.Mathlib.Omega.{arith}
use native.Mathlib.Numerals.{one-add}
use lib.Dec.{ltb, eqb, lit<}
use lib.Pow.{pow_pos, pow-lt, pow-add, high_ones, shl_exact}
use lib.Bits.{bit_and, bit_or, and_high, or_add_and, or_shr, or_step}
use borrow.Author.Tests.{ltb-true, ltb-false}
use lib.Arith.{lt_of_le-ne}
use Rattle.rule.specs.Meaning.{up}
use Rattle.calendar.specs.Calendar.{with_bit, flagged}

two_pos : zero < 2
two_pos = lit< tt

-- ---- no digit at or above the length

pub up_above : (m j : ℕ) → m < 2 ^ j → up j m ≡ false
unfolding up
up_above m j h = ap (λ (x : ℕ). eqb (x % 2) 1) (div-eq_of_lt h)

-- ---- `w | (1 << i)`

-- `w & (1 << i)`
and_bit : (w i : ℕ) → bit_and w (2 ^ i) ≡ (w / 2 ^ i % 2) * 2 ^ i
and_bit w i = ap (bit_and w) (sym (high_ones 1 i ∙ one-mul (2 ^ i))) ∙ and_high w 1 i

pub or_bit : (w i : ℕ) → bit_or w (2 ^ i) ≡ with_bit i w
unfolding with_bit up
or_bit w i = go (w / 2 ^ i % 2) refl
  where
    go : (r : ℕ) → w / 2 ^ i % 2 ≡ r → bit_or w (2 ^ i) ≡ cond (eqb r 1) w (w + 2 ^ i)
    go zero e =
        let a : bit_and w (2 ^ i) ≡ 0 = and_bit w i ∙ ap (λ (x : ℕ). x * 2 ^ i) e ∙ zero-mul (2 ^ i) in
        omega (arith, or_add_and w (2 ^ i))
    go (suc zero) e =
        let a : bit_and w (2 ^ i) ≡ 2 ^ i = and_bit w i ∙ ap (λ (x : ℕ). x * 2 ^ i) e ∙ one-mul (2 ^ i) in
        omega (arith, or_add_and w (2 ^ i))
    go (suc (suc r)) e = absurd (omega arith)

-- `1 << i`
pub one_shl : (i : ℕ) → i < 64 → (1 * 2 ^ i) % 2 ^ 64 ≡ 2 ^ i
one_shl i h = shl_exact {a = 1} 1 i 64 (lit< tt) (subst (λ (x : ℕ). x ≤ 64) (sym (one-add i)) h) ∙ one-mul (2 ^ i)

-- ---- the digits of a word after that

or_lowest : (a b : ℕ) → bit_or a b % 2 ≡ max (a % 2) (b % 2)
or_lowest a b =
    ap (λ (x : ℕ). x % 2) (or_step a b) ∙ mul-add-mod_self_right (bit_or (a / 2) (b / 2)) 2 (max (a % 2) (b % 2))
    ∙ mod-eq_of_lt (omega (arith, mod-lt a two_pos, mod-lt b two_pos))

-- a digit of `a | b`
or_digit : (a b j : ℕ) → bit_or a b / 2 ^ j % 2 ≡ max (a / 2 ^ j % 2) (b / 2 ^ j % 2)
or_digit a b j = ap (λ (x : ℕ). x % 2) (or_shr a b j) ∙ or_lowest (a / 2 ^ j) (b / 2 ^ j)

power_below : (e j : ℕ) → 2 ^ (suc e + j) / 2 ^ j % 2 ≡ 0
power_below e j =
    ap (λ (x : ℕ). x / 2 ^ j % 2) (pow-add 2 (suc e) j) ∙ ap (λ (x : ℕ). x % 2) (mul-div_cancel (2 ^ suc e) (pow_pos j))
    ∙ ap (λ (x : ℕ). x % 2) (pow-suc 2 e) ∙ mul-mod_left (2 ^ e) 2

-- the digits of 2 ^ i
power_here : (i : ℕ) → 2 ^ i / 2 ^ i % 2 ≡ 1
power_here i = ap (λ (x : ℕ). x % 2) (div_self (pow_pos i))

power_other : (i j : ℕ) → (j ≡ i → ⊥) → 2 ^ i / 2 ^ j % 2 ≡ 0
power_other i j ne = go (ltb j i) refl
  where
    go : (t : Bool) → ltb j i ≡ t → 2 ^ i / 2 ^ j % 2 ≡ 0
    go true e =
        let l : j < i = ltb-true j i e in
        ap (λ (x : ℕ). 2 ^ x / 2 ^ j % 2) (let s : i ≡ suc (i - j - 1) + j = omega arith in s) ∙ power_below (i - j - 1) j
    go false e =
        let l : i < j = lt_of_le-ne (ltb-false j i e) (λ s. ne (sym s)) in
        ap (λ (x : ℕ). x % 2) (div-eq_of_lt (pow-lt l))

pub with_bit_here : (i w : ℕ) → up i (with_bit i w) ≡ true
unfolding up
with_bit_here i w =
    ap (λ (x : ℕ). eqb (x / 2 ^ i % 2) 1) (sym (or_bit w i)) ∙ ap (λ (x : ℕ). eqb x 1) (or_digit w (2 ^ i) i)
    ∙ ap (λ (x : ℕ). eqb (max (w / 2 ^ i % 2) x) 1) (power_here i)
    ∙ ap (λ (x : ℕ). eqb x 1) (let m : max (w / 2 ^ i % 2) 1 ≡ 1 = omega (arith, mod-lt (w / 2 ^ i) two_pos) in m)

pub with_bit_other : (i w j : ℕ) → (j ≡ i → ⊥) → up j (with_bit i w) ≡ up j w
unfolding up
with_bit_other i w j ne =
    ap (λ (x : ℕ). eqb (x / 2 ^ j % 2) 1) (sym (or_bit w i)) ∙ ap (λ (x : ℕ). eqb x 1) (or_digit w (2 ^ i) j)
    ∙ ap (λ (x : ℕ). eqb (max (w / 2 ^ j % 2) x) 1) (power_other i j ne)
    ∙ ap (λ (x : ℕ). eqb x 1) (let m : max (w / 2 ^ j % 2) 0 ≡ w / 2 ^ j % 2 = omega arith in m)

pub flagged_here : (i b k w : ℕ) → up i w ≡ false → up i (flagged i b k w) ≡ up k b
unfolding flagged
flagged_here i b k w z = go (up k b)
  where
    go : (t : Bool) → up i (cond t (with_bit i w) w) ≡ t
    go true = with_bit_here i w
    go false = z

pub flagged_other : (i b k w j : ℕ) → (j ≡ i → ⊥) → up j (flagged i b k w) ≡ up j w
unfolding flagged
flagged_other i b k w j ne = go (up k b)
  where
    go : (t : Bool) → up j (cond t (with_bit i w) w) ≡ up j w
    go true = with_bit_other i w j ne
    go false = refl
