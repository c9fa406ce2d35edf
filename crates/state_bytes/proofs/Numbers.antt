-- Laws of numbers in bytes: a number's bytes by their positions, and what was stored is what is read.
-- Assumes nothing.
use Prim.Native.Nat.{ℕ, zero, suc, ◌+◌, ◌*◌, ◌/◌, ◌≤◌, ◌<◌}
use mathlib.Core.Path.{◌≡◌, refl, sym, ap, ◌∙◌}
use mathlib.Core.List.{List, [], ◌∷◌, ◌++◌, append_assoc}
use native.Mathlib.Nat.{add-zero, add-suc}
use native.Mathlib.Omega.{arith}
use lib.ListN.{length, get_or, take, drop, length-drop}
use lib.Seq.{take-nil, drop-drop, take_all, take-take, drop_at, drop-append-le, take-append-le}
use Rattle.std.specs.Int.{w64, from_le_bytes, to_le_bytes}
use borrow.Rule.Slice.PartMut.{put_mid}
use Rattle.words.specs.Words.{splice}
use Rattle.state_bytes.specs.Numbers.{value, low_bytes, number_at}

-- ---- reading

value_more : (s : List ℕ) (n at : ℕ) → value (take (suc n) (drop at s)) ≡ get_or s at 0 + 256 * value (take n (drop (suc at) s))
unfolding value
value_more [] n zero = rw take-nil
value_more [] n (suc at) = rw take-nil
value_more (b ∷ s) n zero = refl
value_more (b ∷ s) n (suc at) = value_more s n at

pub number_bytes : (s : List ℕ) (at : ℕ)
    → number_at s at
    ≡ get_or s (at + 0) 0 + 256 * get_or s (at + 1) 0 + 65536 * get_or s (at + 2) 0 + 16777216 * get_or s (at + 3) 0 + 4294967296 * get_or s (at + 4) 0
    + 1099511627776 * get_or s (at + 5) 0 + 281474976710656 * get_or s (at + 6) 0 + 72057594037927936 * get_or s (at + 7) 0
unfolding number_at value
number_bytes s at =
    let more : (n k : ℕ) → value (take (suc n) (drop (at + k) s)) ≡ get_or s (at + k) 0 + 256 * value (take n (drop (at + suc k) s)) = λ n k. rw add-suc (value_more s n (at + k)) in
    let first : number_at s at ≡ value (take 8 (drop (at + 0) s)) = rw add-zero in
    first ∙ omega (arith, more 7 0, more 6 1, more 5 2, more 4 3, more 3 4, more 2 5, more 1 6, more 0 7)

-- ---- storing

-- How many numbers n bytes can hold.
abbrev pub span : ℕ → ℕ
span zero = 1
span (suc n) = 256 * span n

pub value_low : (n x : ℕ) → x < span n → value (low_bytes n x) ≡ x
unfolding value low_bytes
value_low zero x h = omega arith
value_low (suc n) x h = let e = value_low n (x / 256) (omega arith) in omega arith

pub length_low : (n x : ℕ) → length (low_bytes n x) ≡ n
unfolding low_bytes
length_low zero x = refl
length_low (suc n) x = ap suc (length_low n (x / 256))

-- ---- std's bytes of a number

-- What std's eight bytes are worth is the number there.
pub eight_worth : (s eight : List ℕ) (at : ℕ) → eight ≡ take 8 (drop at s) → from_le_bytes w64 eight ≡ number_at s at
unfolding number_at
eight_worth s eight at e =
    let b = number_bytes eight 0 in
    let same : number_at eight 0 ≡ value (take 8 (drop at s)) = ap (λ (l : List ℕ). value (take 8 l)) e ∙ ap value (take-take 8 8 (drop at s) (omega arith)) in
    omega (arith, b, same)

-- The eight bytes that std makes of a number are its low bytes.
pub eight_low : (x : ℕ) → to_le_bytes w64 x ≡ low_bytes 8 x
unfolding low_bytes
eight_low x =
    let e₂ : x / 256 / 256 ≡ x / 65536 = omega arith in
    let e₃ : x / 65536 / 256 ≡ x / 16777216 = omega arith in
    let e₄ : x / 16777216 / 256 ≡ x / 4294967296 = omega arith in
    let e₅ : x / 4294967296 / 256 ≡ x / 1099511627776 = omega arith in
    let e₆ : x / 1099511627776 / 256 ≡ x / 281474976710656 = omega arith in
    let e₇ : x / 281474976710656 / 256 ≡ x / 72057594037927936 = omega arith in
    rw (e₂, e₃, e₄, e₅, e₆, e₇) refl

-- A part that they are copied over is stored there.
pub eight_placed : (out : List ℕ) (at n x : ℕ) (b : List ℕ) → n ≡ 8 → b ≡ to_le_bytes w64 x → put_mid at n out b ≡ splice out at (low_bytes 8 x)
eight_placed out at n x b k e =
    let f : b ≡ low_bytes 8 x = e ∙ eight_low x in
    let l : n ≡ length (low_bytes 8 x) = k ∙ sym (length_low 8 x) in
    rw (f, l, drop-drop (length (low_bytes 8 x)) at out, append_assoc)

-- ---- reading what was stored

-- A number that ends in the first of two lists is the first's.
pub number_before : (p q : List ℕ) (at : ℕ) → at + 8 ≤ length p → number_at (p ++ q) at ≡ number_at p at
unfolding number_at
number_before p q at h =
    ap (λ (l : List ℕ). value (take 8 l)) (drop-append-le at p q (omega arith)) ∙ ap value (take-append-le 8 (drop at p) q (let d = length-drop at p in omega arith))

pub number_last : (p : List ℕ) (x at : ℕ) → length p ≡ at → x < 18446744073709551616 → number_at (p ++ low_bytes 8 x) at ≡ x
unfolding number_at
number_last p x at e h =
    ap (λ (l : List ℕ). value (take 8 l)) (drop_at p (low_bytes 8 x) at e) ∙ ap value (take_all 8 (low_bytes 8 x) (let d = length_low 8 x in omega arith))
    ∙ value_low 8 x h
