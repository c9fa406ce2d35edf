-- The number of a formula's first refusal, test by test.
use Prim.Native.Nat.{ℕ, suc, ◌+◌, ◌-◌, ◌≤◌, ◌<◌}
use mathlib.Core.Path.{◌≡◌, refl, sym, ◌∙◌}
use mathlib.Core.Bool.{Bool, true, false, true≢false, not, cond, ◌&&◌, ◌||◌}
use mathlib.Core.List.{List}
use native.Mathlib.Omega.{arith}
use lib.Dec.{leb, ltb, eqb}
use lib.ListN.{length}
use lib.IntN.{nat_abs, pos, negsuc}
use borrow.Author.Tests.{le-leb, lt-leb, le-ltb, lt-ltb}
use Rattle.words.specs.Words.{byte, word}
use Rattle.rule.specs.Body.{Head, negate_head, forall_head, require, signed, bound, require_bound, fixed, after_code, head}
use mathlib.Core.Logic.{◌⊎◌, inl, inr}
use Rattle.refusal.proofs.Bools.{and_true}
use Rattle.rule.proofs.Order.{by_order}
use Rattle.formula_bytes.specs.Checks.{head_number}

pub require_number : (b : Bool) (n : ℕ) (next : Head) → head_number (require b n next) ≡ cond b (head_number next) n
unfolding require
require_number true n next = refl
require_number false n next = refl

-- ---- the offset

offset_high : {w : ℕ} → 61441 ≤ w → nat_abs (signed w) ≤ 4095
unfolding signed
offset_high {w} h = simp (le-ltb w 32768 (omega arith)) (omega arith)

offset_far : {w : ℕ} → 4095 < w → w < 61441 → 4095 < nat_abs (signed w)
unfolding signed
offset_far {w} h k = go (leb (suc w) 32768) refl
  where
    go : (b : Bool) → leb (suc w) 32768 ≡ b → 4095 < nat_abs (cond b (pos w) (negsuc (65535 - w)))
    go true e = h
    go false e = omega (arith)

-- past 4,095, only the 16 bits of a negative offset are near enough
pub offset_above : (w : ℕ) → 4095 < w → leb 61441 w ≡ leb (nat_abs (signed w)) 4095
offset_above w h = go (by_order 61441 w)
  where
    go : (61441 ≤ w) ⊎ (w < 61441) → leb 61441 w ≡ leb (nat_abs (signed w)) 4095
    go (inl i) = simp (le-leb 61441 w i, le-leb _ 4095 (offset_high i))
    go (inr i) = simp (lt-leb 61441 w i, lt-leb _ 4095 (offset_far h i))

-- ---- a bound

-- The number of the first test that fails, of 5, 6, 23, 24 and 8; x where none does.
abbrev in_order : Bool → Bool → Bool → Bool → Bool → ℕ → ℕ
in_order a b c d e x = cond a (cond b (cond c (cond d (cond e x 8) 24) 23) 6) 5

-- The same for a bound inside m quantifiers, with kind k, variable byte v and offset w.
abbrev bound_order : ℕ → ℕ → ℕ → ℕ → ℕ → ℕ
bound_order m k v w x = in_order (leb k 2) (not (eqb k 2) || leb v m) (eqb k 2 || eqb v 0) (not (eqb k 1) || eqb w 0) (leb (nat_abs (signed w)) 4095) x

module _ (s : List ℕ) (at m : ℕ) where
  bound_number : (next : Head) → head_number (require_bound s at m next) ≡ bound_order m (byte s at) (byte s (at + 1)) (word s (at + 2)) (head_number next)
  unfolding require_bound
  bound_number next = simp require_number

  pub bound_5 : 2 < byte s at → head_number (require_bound s at m negate_head) ≡ 5
  bound_5 h = bound_number negate_head ∙ simp (lt-leb (byte s at) 2 h)

  module _ (v w : ℕ) (variable : v ≡ byte s (at + 1)) (offset : w ≡ word s (at + 2)) (a : byte s at ≤ 2) where
    bound_tests : head_number (require_bound s at m negate_head) ≡ bound_order m (byte s at) v w 0
    bound_tests = rw (variable, offset) (bound_number negate_head)

    pub bound_6 : (not (eqb (byte s at) 2) || leb v m) ≡ false → head_number (require_bound s at m negate_head) ≡ 6
    bound_6 h = bound_tests ∙ simp (le-leb (byte s at) 2 a, h)

    module _ (b : (not (eqb (byte s at) 2) || leb v m) ≡ true) where
      pub bound_23 : (eqb (byte s at) 2 || eqb v 0) ≡ false → head_number (require_bound s at m negate_head) ≡ 23
      bound_23 h = bound_tests ∙ simp (le-leb (byte s at) 2 a, b, h)

      module _ (c : (eqb (byte s at) 2 || eqb v 0) ≡ true) where
        pub bound_24 : (not (eqb (byte s at) 1) || eqb w 0) ≡ false → head_number (require_bound s at m negate_head) ≡ 24
        bound_24 h = bound_tests ∙ simp (le-leb (byte s at) 2 a, b, c, h)

        module _ (d : (not (eqb (byte s at) 1) || eqb w 0) ≡ true) where
          pub bound_8 : leb (nat_abs (signed w)) 4095 ≡ false → head_number (require_bound s at m negate_head) ≡ 8
          bound_8 h = bound_tests ∙ simp (le-leb (byte s at) 2 a, b, c, d, h)

          pub bound_fine : leb (nat_abs (signed w)) 4095 ≡ true → head_number (require_bound s at m negate_head) ≡ 0
          bound_fine h = bound_tests ∙ simp (le-leb (byte s at) 2 a, b, c, d, h)

-- ---- two bounds, one after the other

passes : (a b c d e : Bool) (x : ℕ) → in_order a b c d e 0 ≡ 0 → in_order a b c d e x ≡ x
passes true true true true true x h = refl
passes true true true true false x h = absurd (omega arith)
passes true true true false e x h = absurd (omega arith)
passes true true false d e x h = absurd (omega arith)
passes true false c d e x h = absurd (omega arith)
passes false b c d e x h = absurd (omega arith)

stops : (a b c d e : Bool) (x : ℕ) → (in_order a b c d e 0 ≡ 0 → ⊥) → in_order a b c d e x ≡ in_order a b c d e 0
stops true true true true true x h = absurd (h refl)
stops true true true true false x h = refl
stops true true true false e x h = refl
stops true true false d e x h = refl
stops true false c d e x h = refl
stops false b c d e x h = refl

bound_passes : (m k v w x : ℕ) → bound_order m k v w 0 ≡ 0 → bound_order m k v w x ≡ x
bound_passes m k v w x = passes (leb k 2) (not (eqb k 2) || leb v m) (eqb k 2 || eqb v 0) (not (eqb k 1) || eqb w 0) (leb (nat_abs (signed w)) 4095) x

bound_stops : (m k v w x : ℕ) → (bound_order m k v w 0 ≡ 0 → ⊥) → bound_order m k v w x ≡ bound_order m k v w 0
bound_stops m k v w x = stops (leb k 2) (not (eqb k 2) || leb v m) (eqb k 2 || eqb v 0) (not (eqb k 1) || eqb w 0) (leb (nat_abs (signed w)) 4095) x

module _ (s : List ℕ) (at m : ℕ) (next : Head) where
  first_passes : head_number (require_bound s at m negate_head) ≡ 0 → head_number (require_bound s at m next) ≡ head_number next
  first_passes h = bound_number s at m next ∙ bound_passes m (byte s at) (byte s (at + 1)) (word s (at + 2)) (head_number next) (sym (bound_number s at m negate_head) ∙ h)

  first_stops : (head_number (require_bound s at m negate_head) ≡ 0 → ⊥) → head_number (require_bound s at m next) ≡ head_number (require_bound s at m negate_head)
  first_stops h = bound_number s at m next ∙ bound_stops m (byte s at) (byte s (at + 1)) (word s (at + 2)) (head_number next) (λ e. h (bound_number s at m negate_head ∙ e)) ∙ sym (bound_number s at m negate_head)

-- ---- the contents

module _ (s : List ℕ) (at m : ℕ) where
  pub contents_6 : byte s at ≡ 1 → m < byte s (at + 1) → head_number (after_code s at m) ≡ 6
  unfolding after_code
  contents_6 e h = simp (e, require_number, lt-leb (byte s (at + 1)) m h)

  pub contents_7 : byte s at ≡ 1 → byte s (at + 1) ≤ m → 7 < byte s (at + 2) → head_number (after_code s at m) ≡ 7
  unfolding after_code
  contents_7 e h k = simp (e, require_number, le-leb (byte s (at + 1)) m h, lt-leb (byte s (at + 2)) 7 k)

  pub contents_flag : byte s at ≡ 1 → byte s (at + 1) ≤ m → byte s (at + 2) ≤ 7 → head_number (after_code s at m) ≡ 0
  unfolding after_code
  contents_flag e h k = simp (e, require_number, le-leb (byte s (at + 1)) m h, le-leb (byte s (at + 2)) 7 k)

  forall_contents : byte s at ≡ 5 → head_number (after_code s at m) ≡ head_number (require_bound s (at + 1) m (require_bound s (at + 5) m (forall_head (bound s (at + 1)) (bound s (at + 5)))))
  unfolding after_code
  forall_contents e = simp e

  pub contents_first : byte s at ≡ 5 → (head_number (require_bound s (at + 1) m negate_head) ≡ 0 → ⊥) → head_number (after_code s at m) ≡ head_number (require_bound s (at + 1) m negate_head)
  contents_first e h = forall_contents e ∙ first_stops s (at + 1) m _ h

  pub contents_second : byte s at ≡ 5 → head_number (require_bound s (at + 1) m negate_head) ≡ 0 → head_number (after_code s at m) ≡ head_number (require_bound s (at + 5) m negate_head)
  contents_second e h = forall_contents e ∙ first_passes s (at + 1) m _ h ∙ bound_number s (at + 5) m (forall_head (bound s (at + 1)) (bound s (at + 5))) ∙ sym (bound_number s (at + 5) m negate_head)

  pub contents_plain : 2 ≤ byte s at → byte s at ≤ 4 → head_number (after_code s at m) ≡ 0
  unfolding after_code
  contents_plain h k = go (by_order (byte s at) 2) (by_order (byte s at) 3)
    where
      go : (byte s at ≤ 2) ⊎ (2 < byte s at) → (byte s at ≤ 3) ⊎ (3 < byte s at) → head_number (after_code s at m) ≡ 0
      go (inl i) j = let e : byte s at ≡ 2 = omega arith in simp e
      go (inr i) (inl j) = let e : byte s at ≡ 3 = omega arith in simp e
      go (inr i) (inr j) = let e : byte s at ≡ 4 = omega arith in simp e

-- ---- the head

pub fixed_of_forall : (code : ℕ) → code ≡ 5 → fixed code ≡ 9
unfolding fixed
fixed_of_forall code e = simp e

module _ (s : List ℕ) (at m left : ℕ) where
  number_of_head : head_number (head s at m left) ≡
      cond (ltb at (length s)) (cond (leb 1 (byte s at) && leb (byte s at) 5) (cond (leb 1 left) (cond (not (eqb (byte s at) 5) || ltb m 4)
      (cond (leb (at + fixed (byte s at)) (length s)) (head_number (after_code s at m)) 4) 9) 9) 5) 4
  unfolding head
  number_of_head = simp require_number

  pub head_4 : length s ≤ at → head_number (head s at m left) ≡ 4
  head_4 h = number_of_head ∙ simp (le-ltb at (length s) h)

  module _ (a : at < length s) where
    pub head_5 : (leb 1 (byte s at) && leb (byte s at) 5) ≡ false → head_number (head s at m left) ≡ 5
    head_5 h = number_of_head ∙ simp (lt-ltb at (length s) a, h)

    module _ (b : (leb 1 (byte s at) && leb (byte s at) 5) ≡ true) where
      pub head_9 : (leb 1 left && (not (eqb (byte s at) 5) || ltb m 4)) ≡ false → head_number (head s at m left) ≡ 9
      head_9 h = number_of_head ∙ simp (lt-ltb at (length s) a, b) (one_fails (leb 1 left) (not (eqb (byte s at) 5) || ltb m 4) _ h)
        where
          one_fails : (x y : Bool) (n : ℕ) → (x && y) ≡ false → cond x (cond y n 9) 9 ≡ 9
          one_fails true true n e = absurd (true≢false e)
          one_fails true false n e = refl
          one_fails false y n e = refl

      module _ (c : (leb 1 left && (not (eqb (byte s at) 5) || ltb m 4)) ≡ true) where
        pub head_4b : length s < at + fixed (byte s at) → head_number (head s at m left) ≡ 4
        head_4b h =
            let p = and_true (leb 1 left) (not (eqb (byte s at) 5) || ltb m 4) c in
            number_of_head ∙ simp (lt-ltb at (length s) a, b, p.0, p.1, lt-leb (at + fixed (byte s at)) (length s) h)

        pub head_contents : at + fixed (byte s at) ≤ length s → head_number (head s at m left) ≡ head_number (after_code s at m)
        head_contents h =
            let p = and_true (leb 1 left) (not (eqb (byte s at) 5) || ltb m 4) c in
            number_of_head ∙ simp (lt-ltb at (length s) a, b, p.0, p.1, le-leb (at + fixed (byte s at)) (length s) h)
