-- An offset as it is printed: the digits are a numeral, and they say the number again.
use Prim.Native.Nat.{ℕ, zero, suc, ◌+◌, ◌-◌, ◌*◌, ◌/◌, ◌%◌, ◌≤◌, ◌<◌}
use mathlib.Core.Path.{◌≡◌, refl, ap, ◌∙◌}
use mathlib.Core.Bool.{Bool, true, false, cond}
use mathlib.Core.List.{List, [], ◌∷◌}
use native.Mathlib.Omega.{arith}
use lib.Dec.{ltb}
use lib.IntN.{ℤ, pos, negsuc, nat_abs}
use lib.ListN.{length, length-append}
use borrow.Author.Tests.{le-leb, ltb-true}
use Rattle.rule.proofs.Written as written
use Rattle.notation.specs.Notation.{offset_text, digit, between, all, is_numeral, SpeltOffset}
use Rattle.notation.specs.Bodies.{value_on, offset_word, word_bytes}
use Rattle.notation.specs.Printing.{digit_of, digits, offset_named}

-- A byte from 48 to 57.
pub digit_true : (c : ℕ) → c ≤ 9 → digit (48 + c) ≡ true
unfolding between
digit_true c h = rw (le-leb 48 (48 + c) (omega arith), le-leb (48 + c) 57 (omega arith))

abbrev Holds : (List ℕ → Type 0) → ℕ → Type 0
Holds P n =
    (n < 10 → P (digit_of n 1 ∷ [])) × (n < 100 → P (digit_of n 10 ∷ digit_of n 1 ∷ []))
    × (n < 1000 → P (digit_of n 100 ∷ digit_of n 10 ∷ digit_of n 1 ∷ [])) × P (digit_of n 1000 ∷ digit_of n 100 ∷ digit_of n 10 ∷ digit_of n 1 ∷ [])

-- What holds of one, two, three and four digits holds of the digits of a number.
digits_hold : (P : List ℕ → Type 0) (n : ℕ) → Holds P n → P (digits n)
unfolding digits
digits_hold P n h = go (ltb n 10) (ltb n 100) (ltb n 1000) refl refl refl
  where
    go : (a b c : Bool) → ltb n 10 ≡ a → ltb n 100 ≡ b → ltb n 1000 ≡ c
        → P (cond a (digit_of n 1 ∷ []) (cond b (digit_of n 10 ∷ digit_of n 1 ∷ []) (cond c (digit_of n 100 ∷ digit_of n 10 ∷ digit_of n 1 ∷ [])
        (digit_of n 1000 ∷ digit_of n 100 ∷ digit_of n 10 ∷ digit_of n 1 ∷ []))))
    go true b c e f g = h.0 (ltb-true n 10 e)
    go false true c e f g = h.1 (ltb-true n 100 f)
    go false false true e f g = h.2 (ltb-true n 1000 g)
    go false false false e f g = h.3

pub digits_short : (n : ℕ) → length (digits n) ≤ 4
digits_short n = digits_hold (λ d. length d ≤ 4) n ((λ _. omega arith), (λ _. omega arith), (λ _. omega arith), omega arith)

pub digits_numeral : (n : ℕ) → is_numeral (digits n) ≡ true
unfolding is_numeral all
digits_numeral n = digits_hold (λ d. is_numeral d ≡ true) n ((λ _. rw (d 1)), (λ _. rw (d 10, d 1)), (λ _. rw (d 100, d 10, d 1)), rw (d 1000, d 100, d 10, d 1))
  where
    d : (w : ℕ) → digit (digit_of n w) ≡ true
    d w = digit_true (n / w % 10) (omega arith)

-- ---- the number that the digits say

value_digit : (v c : ℕ) (d : List ℕ) → v ≤ 999 → c ≤ 9 → value_on v ((48 + c) ∷ d) ≡ value_on (v * 10 + c) d
unfolding value_on
value_digit v c d h k =
    let e : (v * 10 + (48 + c - 48)) % 65536 ≡ v * 10 + c = omega arith in
    ap (λ n. value_on n d) e

module _ (a : ℕ) (i : a ≤ 9) where
  value_one : value_on 0 ((48 + a) ∷ []) ≡ a
  unfolding value_on
  value_one = value_digit 0 a [] (omega arith) i ∙ omega arith

  module _ (b : ℕ) (j : b ≤ 9) where
    value_two : value_on 0 ((48 + a) ∷ (48 + b) ∷ []) ≡ a * 10 + b
    unfolding value_on
    value_two = value_digit 0 a ((48 + b) ∷ []) (omega arith) i ∙ value_digit (0 * 10 + a) b [] (omega arith) j ∙ omega arith

    module _ (c : ℕ) (k : c ≤ 9) where
      value_three : value_on 0 ((48 + a) ∷ (48 + b) ∷ (48 + c) ∷ []) ≡ (a * 10 + b) * 10 + c
      unfolding value_on
      value_three =
          value_digit 0 a ((48 + b) ∷ (48 + c) ∷ []) (omega arith) i
          ∙ value_digit (0 * 10 + a) b ((48 + c) ∷ []) (omega arith) j
          ∙ value_digit ((0 * 10 + a) * 10 + b) c [] (omega arith) k
          ∙ omega arith

      value_four : (d : ℕ) → d ≤ 9 → value_on 0 ((48 + a) ∷ (48 + b) ∷ (48 + c) ∷ (48 + d) ∷ []) ≡ ((a * 10 + b) * 10 + c) * 10 + d
      unfolding value_on
      value_four d l =
          value_digit 0 a ((48 + b) ∷ (48 + c) ∷ (48 + d) ∷ []) (omega arith) i
          ∙ value_digit (0 * 10 + a) b ((48 + c) ∷ (48 + d) ∷ []) (omega arith) j
          ∙ value_digit ((0 * 10 + a) * 10 + b) c ((48 + d) ∷ []) (omega arith) k
          ∙ value_digit (((0 * 10 + a) * 10 + b) * 10 + c) d [] (omega arith) l
          ∙ omega arith

pub digits_value : (n : ℕ) → n ≤ 9999 → value_on 0 (digits n) ≡ n
digits_value n h =
    digits_hold (λ d. value_on 0 d ≡ n) n (
      (λ i. value_one (n / 1 % 10) (below 1) ∙ omega arith),
      (λ i. value_two (n / 10 % 10) (below 10) (n / 1 % 10) (below 1) ∙ omega arith),
      (λ i. value_three (n / 100 % 10) (below 100) (n / 10 % 10) (below 10) (n / 1 % 10) (below 1) ∙ omega arith),
      value_four (n / 1000 % 10) (below 1000) (n / 100 % 10) (below 100) (n / 10 % 10) (below 10) (n / 1 % 10) (below 1) ∙ sum,
    )
  where
    below : (w : ℕ) → n / w % 10 ≤ 9
    below w = omega arith

    sum : ((n / 1000 % 10 * 10 + n / 100 % 10) * 10 + n / 10 % 10) * 10 + n / 1 % 10 ≡ n
    sum =
        let tens : n / 10 ≡ 10 * (n / 100) + n / 10 % 10 = omega arith in
        let hundreds : n / 100 ≡ 10 * (n / 1000) + n / 100 % 10 = omega arith in
        let thousands : n / 1000 % 10 ≡ n / 1000 = omega arith in
        let ones : n ≡ 10 * (n / 10) + n / 1 % 10 = omega arith in
        omega arith

-- ---- offsets

pub offset_spelt : (z : ℤ) → SpeltOffset (offset_named z)
unfolding offset_named
offset_spelt (pos zero) = tt
offset_spelt (pos (suc n)) = digits_numeral (suc n)
offset_spelt (negsuc n) = digits_numeral (suc n)

pub offset_back : (z : ℤ) → nat_abs z ≤ 4095 → offset_word (offset_named z) ≡ written.offset_word z
unfolding offset_named offset_word
offset_back (pos zero) h = refl
offset_back (pos (suc n)) h = digits_value (suc n) (omega arith)
offset_back (negsuc n) h = rw (digits_value (suc n) (omega arith)) (omega arith)

pub offset_bytes_back : (z : ℤ) → nat_abs z ≤ 4095 → word_bytes (offset_word (offset_named z)) ≡ written.offset_bytes z
unfolding word_bytes
offset_bytes_back z h = rw (offset_back z h) (go z h)
  where
    go : (z : ℤ) → nat_abs z ≤ 4095 → (written.offset_word z % 256) ∷ (written.offset_word z / 256 % 256) ∷ [] ≡ written.offset_bytes z
    go (pos n) h = let e : n / 256 % 256 ≡ n / 256 = omega arith in rw e
    go (negsuc n) h = let e : (65535 - n) / 256 % 256 ≡ (65535 - n) / 256 = omega arith in rw e

pub offset_short : (z : ℤ) (r : List ℕ) → length (offset_text (offset_named z) r) ≤ 5 + length r
unfolding offset_named offset_text
offset_short (pos zero) r = omega arith
offset_short (pos (suc n)) r = omega (arith, digits_short (suc n), length-append (digits (suc n)) r)
offset_short (negsuc n) r = omega (arith, digits_short (suc n), length-append (digits (suc n)) r)
