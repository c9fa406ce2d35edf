-- What is known of the place that a text is split at.
use Rattle.std.proofs.Common.{◌≡◌, ◌≤◌, ◌<◌, ◌==◌, ◌+◌, suc, [], ◌∷◌, length, take, drop, ℕ, List, Option, Some, None, Bool, true, false, cond, arith, sym, ap, ◌∙◌, refl}
use Rattle.std.specs.Option.{unwrap_or}
use Rattle.std.specs.Char.{is_ascii_digit}
use Rattle.std.specs.Int.{IsInRange}
use Rattle.std.proofs.lemmas.Str.Parse.{tells_digits}
use Rattle.std.proofs.lemmas.Bool.Decides.{nat_tests}
use Rattle.std.specs.List.{position, prefix_len}
use Rattle.std.specs.Str.Parse.{AllDigits}
use Rattle.std.proofs.lemmas.List.Quantifiers.{position-Some}
use Rattle.std.proofs.lemmas.List.{take_all}
use lib.ListN.{drop_of_length-le}
use Rattle.case_file.specs.Digits.{digit_count}
use Rattle.case_file.specs.Places.{index_of}

-- a place that was found is the first, and lies in the text
pub found_at : (byte : ℕ) (text : List ℕ) (r : Option ℕ) (at : ℕ) → r ≡ position (λ b. b == byte) text → r ≡ Some at → (at ≡ index_of byte text) × (at < length text)
found_at byte text r at e f =
    let found : position (λ b. b == byte) text ≡ Some at = sym e ∙ f in
    (ap (λ (o : Option ℕ). unwrap_or o (length text)) (sym found), (position-Some (λ b. b == byte) text at 0 found).0)

-- where no place was found, the first one is the text's end
pub found_none : (byte : ℕ) (text : List ℕ) (r : Option ℕ) → r ≡ position (λ b. b == byte) text → r ≡ None → length text ≤ index_of byte text
found_none byte text r e f =
    let none : position (λ b. b == byte) text ≡ None = sym e ∙ f in
    let last : index_of byte text ≡ length text = ap (λ (o : Option ℕ). unwrap_or o (length text)) none in
    omega arith

-- what stands before it and behind it, where it was found and where not
pub cut_before : (byte : ℕ) (text part : List ℕ) (r : Option ℕ) (at : ℕ) → r ≡ position (λ b. b == byte) text → r ≡ Some at → part ≡ take at text → part ≡ take (index_of byte text) text
cut_before byte text part r at e f cut = cut ∙ ap (λ (n : ℕ). take n text) (found_at byte text r at e f).0

pub whole_before : (byte : ℕ) (text : List ℕ) (r : Option ℕ) → r ≡ position (λ b. b == byte) text → r ≡ None → text ≡ take (index_of byte text) text
whole_before byte text r e f = sym (take_all (index_of byte text) text (found_none byte text r e f))

pub cut_behind : (byte : ℕ) (text part : List ℕ) (r : Option ℕ) (at : ℕ) → r ≡ position (λ b. b == byte) text → r ≡ Some at → part ≡ drop (at + 1) text → part ≡ drop (suc (index_of byte text)) text
cut_behind byte text part r at e f cut =
    let next : at + 1 ≡ suc at = omega arith in
    cut ∙ ap (λ (n : ℕ). drop n text) next ∙ ap (λ (n : ℕ). drop (suc n) text) (found_at byte text r at e f).0

pub none_behind : (byte : ℕ) (text : List ℕ) (r : Option ℕ) → r ≡ position (λ b. b == byte) text → r ≡ None → [] ≡ drop (suc (index_of byte text)) text
none_behind byte text r e f =
    let past = found_none byte text r e f in
    sym (drop_of_length-le text {i = suc (index_of byte text)} (omega arith))

-- one more digit in front
one_more : (x : ℕ) (xs : List ℕ) (b : Bool) → is_ascii_digit x ≡ b → AllDigits 10 (take (prefix_len is_ascii_digit xs) xs)
    → AllDigits 10 (take (cond b (1 + prefix_len is_ascii_digit xs) 0) (x ∷ xs))
one_more x xs true e rest =
    let digit : IsInRange 48 57 x = grind (arith, nat_tests) in
    let next : 1 + prefix_len is_ascii_digit xs ≡ suc (prefix_len is_ascii_digit xs) = omega arith in
    rw next (tells_digits.more x (take (prefix_len is_ascii_digit xs) xs) digit rest)
one_more x xs false e rest = tt

-- what a text begins with are digits
begins_with_digits : (text : List ℕ) → AllDigits 10 (take (prefix_len is_ascii_digit text) text)
begins_with_digits [] = tt
begins_with_digits (x ∷ xs) = one_more x xs (is_ascii_digit x) refl (begins_with_digits xs)

pub front_digits : (text front : List ℕ) (k : ℕ) → k ≡ digit_count text → front ≡ take k text → AllDigits 10 front
front_digits text front k e f = rw (f, e) (begins_with_digits text)
