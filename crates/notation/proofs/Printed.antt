-- The text of a spelt formula is read as that formula, whatever follows it.
use Prim.Native.Nat.{ℕ, zero, suc, ◌+◌, ◌≤◌}
use mathlib.Core.Path.{◌≡◌, refl}
use mathlib.Core.Bool.{true, false}
use mathlib.Core.List.{List, [], ◌∷◌, ◌++◌}
use native.Mathlib.Omega.{arith}
use lib.ListN.{length, length-append}
use Rattle.notation.specs.Notation.{Base, origin, infinity, position, Offset, nothing, plus, minus, End, end, Named, flag, negate, then, beside, forall, infinity_word, colon_sign, to_sign, then_sign, beside_sign, base_text, offset_text, end_text, formula_text, letter, digit, between, all, same, is_name, SpeltBase, SpeltOffset, SpeltEnd, Spelt}
use Rattle.notation.specs.Reading.{got, and_read, starts, expect, one_digit, read_base, read_offset, read_end, flag_token, forall_token, flag_digit, flag_point, read_flag, forall_colon, forall_second, forall_to, forall_first, forall_range, read_forall, read_token, joint, joined, second, read_parts, read_formula}
use Rattle.notation.proofs.Spelling.{stops, run_over, past_over, name_starts, name_free, name_letters, name_over, numeral_over}

-- What follows a bound goes on with no letter, digit or sign.
pub record Closing (r : List ℕ) : Type 0 where
  pub letters : stops letter r ≡ true
  pub digits : stops digit r ≡ true
  pub no_plus : starts (43 ∷ []) r ≡ false
  pub no_minus : starts (45 ∷ []) r ≡ false

to_closes : (r : List ℕ) → Closing (to_sign ++ r)
unfolding stops starts between
to_closes r = record { letters = refl; digits = refl; no_plus = refl; no_minus = refl }

colon_closes : (r : List ℕ) → Closing (colon_sign ++ r)
unfolding stops starts between
colon_closes r = record { letters = refl; digits = refl; no_plus = refl; no_minus = refl }

offset_over : (o : Offset) (r : List ℕ) → SpeltOffset o → Closing r → read_offset (offset_text o r) ≡ got o r
unfolding read_offset offset_text and_read starts
offset_over nothing r h k = rw (k.no_plus, k.no_minus)
offset_over (plus d) r h k = rw (numeral_over d r h k.digits)
offset_over (minus d) r h k = rw (numeral_over d r h k.digits)

offset_stops : (o : Offset) (r : List ℕ) → Closing r → stops letter (offset_text o r) ≡ true
unfolding offset_text stops between
offset_stops nothing r k = k.letters
offset_stops (plus d) r k = refl
offset_stops (minus d) r k = refl

base_over : (b : Base) (r : List ℕ) → SpeltBase b → stops letter r ≡ true → read_base (base_text b r) ≡ got b r
unfolding read_base base_text and_read starts all same between
base_over origin r h k = refl
base_over infinity r h k = rw (run_over letter infinity_word r refl k, past_over letter infinity_word r refl k)
base_over (position n) r h k =
    rw (
      name_starts n r 48 refl h,
      run_over letter n r (name_letters n h) k,
      name_free n h,
      name_over n r h k,
    )

end_over : (E : End) (r : List ℕ) → SpeltEnd E → Closing r → read_end (end_text E r) ≡ got E r
unfolding read_end end_text and_read
end_over (end b o) r h k = rw (base_over b (offset_text o r) h.0 (offset_stops o r k), offset_over o r h.1 k)

-- ---- formulas

abbrev pub weight : Named → ℕ
weight (flag n k) = 1
weight (negate F) = suc (weight F)
weight (then F G) = suc (weight F + weight G)
weight (beside F G) = suc (weight F + weight G)
weight (forall n A B F) = suc (weight F)

forall_over : (n : List ℕ) (A B : End) (r : List ℕ) → is_name n ≡ true → SpeltEnd A → SpeltEnd B
    → read_forall (n ++ (32 ∷ 105 ∷ 110 ∷ 32 ∷ end_text A (46 ∷ 46 ∷ end_text B (32 ∷ 58 ∷ 32 ∷ r)))) ≡ got (forall_token n A B) r
unfolding read_forall forall_range forall_first forall_to forall_second forall_colon and_read expect starts stops between
forall_over n A B r h a b =
    rw (
      name_over n (32 ∷ 105 ∷ 110 ∷ 32 ∷ end_text A (46 ∷ 46 ∷ end_text B (32 ∷ 58 ∷ 32 ∷ r))) h refl,
      end_over A (46 ∷ 46 ∷ end_text B (32 ∷ 58 ∷ 32 ∷ r)) a (to_closes (end_text B (32 ∷ 58 ∷ 32 ∷ r))),
      end_over B (32 ∷ 58 ∷ 32 ∷ r) b (colon_closes r),
    )

flag_over : (n : List ℕ) (k : ℕ) (r : List ℕ) → is_name n ≡ true → digit k ≡ true → read_flag (n ++ (46 ∷ k ∷ r)) ≡ got (flag_token n k) r
unfolding read_flag flag_point flag_digit and_read expect starts stops one_digit between
flag_over n k r h d = rw (name_over n (46 ∷ k ∷ r) h refl, d)

pub formula_over : (n : ℕ) (F : Named) (r : List ℕ) → weight F ≤ n → Spelt F → read_formula n (formula_text F r) ≡ got F r
unfolding read_formula formula_text read_token and_read expect starts read_parts joint joined second
formula_over zero (flag x k) r h s = absurd (omega arith)
formula_over zero (negate F) r h s = absurd (omega arith)
formula_over zero (then F G) r h s = absurd (omega arith)
formula_over zero (beside F G) r h s = absurd (omega arith)
formula_over zero (forall x A B F) r h s = absurd (omega arith)
formula_over (suc n) (flag x k) r h s = rw (flag_over x k r s.0 s.1)
formula_over (suc n) (negate F) r h s = rw (formula_over n F r (omega arith) s)
formula_over (suc n) (then F G) r h s =
    rw (formula_over n F (then_sign ++ formula_text G (41 ∷ r)) (omega arith) s.0, formula_over n G (41 ∷ r) (omega arith) s.1)
formula_over (suc n) (beside F G) r h s =
    rw (formula_over n F (beside_sign ++ formula_text G (41 ∷ r)) (omega arith) s.0, formula_over n G (41 ∷ r) (omega arith) s.1)
formula_over (suc n) (forall x A B F) r h s =
    rw (forall_over x A B (formula_text F r) s.0 s.1 s.2, formula_over n F r (omega arith) s.3)

-- ---- a formula's text is at least as long as its weight

base_long : (b : Base) (r : List ℕ) → length r ≤ length (base_text b r)
unfolding base_text
base_long origin r = omega arith
base_long infinity r = omega arith
base_long (position n) r = omega (arith, length-append n r)

pub offset_long : (o : Offset) (r : List ℕ) → length r ≤ length (offset_text o r)
unfolding offset_text
offset_long nothing r = omega arith
offset_long (plus d) r = omega (arith, length-append d r)
offset_long (minus d) r = omega (arith, length-append d r)

pub end_long : (E : End) (r : List ℕ) → length r ≤ length (end_text E r)
unfolding end_text
end_long (end b o) r = omega (arith, base_long b (offset_text o r), offset_long o r)

pub formula_long : (F : Named) (r : List ℕ) → weight F + length r ≤ length (formula_text F r)
unfolding formula_text
formula_long (flag n k) r = omega (arith, length-append n (46 ∷ k ∷ r))
formula_long (negate F) r = omega (arith, formula_long F r)
formula_long (then F G) r = omega (arith, formula_long F (then_sign ++ formula_text G (41 ∷ r)), formula_long G (41 ∷ r))
formula_long (beside F G) r = omega (arith, formula_long F (beside_sign ++ formula_text G (41 ∷ r)), formula_long G (41 ∷ r))
formula_long (forall n A B F) r =
    let b = end_long B (colon_sign ++ formula_text F r) in
    let a = end_long A (to_sign ++ end_text B (colon_sign ++ formula_text F r)) in
    omega (arith, a, b, formula_long F r, length-append n (32 ∷ 105 ∷ 110 ∷ 32 ∷ end_text A (to_sign ++ end_text B (colon_sign ++ formula_text F r))))
