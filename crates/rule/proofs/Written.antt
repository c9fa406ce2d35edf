-- The bytes that a legal formula has, and what the tests of a bound show: its bytes are those of the bound that is read.
use Prim.Native.Nat.{ℕ, suc, ◌+◌, ◌-◌, ◌*◌, ◌/◌, ◌%◌, ◌≤◌, ◌<◌}
use mathlib.Core.Path.{◌≡◌, refl, ap, sym, ◌∙◌}
use mathlib.Core.Bool.{Bool, true, false, not, cond, ◌||◌, false≢true}
use mathlib.Core.List.{List, [], ◌∷◌, ◌++◌}
use native.Mathlib.Omega.{arith}
use native.Mathlib.Numerals.{add-one}
use lib.Dec.{leb, ltb, eqb}
use lib.IntN.{ℤ, pos, negsuc, nat_abs}
use lib.ListN.{length, drop}
use lib.Seq.{drop-cons}
use borrow.Author.Tests.{leb-true, eqb-true, eqb-false, eq-eqb, ne_eqb}
use Rattle.words.specs.Words.{byte, Bytes, word}
use Rattle.rule.specs.Formula.{Bound, origin, infinity, variable, Formula, flag, negate, then, beside, forall}
use Rattle.rule.specs.Body.{Head, refuse, signed, bound, require_bound}
use Rattle.refusal.proofs.Bools.{if_true}
use Rattle.rule.proofs.Reading.{require_holds}

-- ---- the bytes of a formula

abbrev pub offset_word : ℤ → ℕ
offset_word (pos n) = n
offset_word (negsuc n) = 65535 - n

abbrev pub offset_bytes : ℤ → List ℕ
offset_bytes z = (offset_word z % 256) ∷ (offset_word z / 256) ∷ []

unfoldable pub bound_bytes : Bound → List ℕ
bound_bytes (origin z) = 0 ∷ 0 ∷ offset_bytes z
bound_bytes infinity = 1 ∷ 0 ∷ 0 ∷ 0 ∷ []
bound_bytes (variable v z) = 2 ∷ v ∷ offset_bytes z

unfoldable pub formula_bytes : Formula → List ℕ
formula_bytes (flag v k) = 1 ∷ v ∷ k ∷ []
formula_bytes (negate F) = 2 ∷ formula_bytes F
formula_bytes (then F G) = 3 ∷ (formula_bytes F ++ formula_bytes G)
formula_bytes (beside F G) = 4 ∷ (formula_bytes F ++ formula_bytes G)
formula_bytes (forall A B F) = 5 ∷ (bound_bytes A ++ (bound_bytes B ++ formula_bytes F))

-- ---- the formulas that a body can have, inside m quantifiers

abbrev pub LegalBound : ℕ → Bound → Type 0
LegalBound m (origin z) = nat_abs z ≤ 4095
LegalBound m infinity = Unit {0}
LegalBound m (variable v z) = (v ≤ m) × (nat_abs z ≤ 4095)

abbrev pub Legal : ℕ → Formula → Type 0
Legal m (flag v k) = (v ≤ m) × (k ≤ 7)
Legal m (negate F) = Legal m F
Legal m (then F G) = Legal m F × Legal m G
Legal m (beside F G) = Legal m F × Legal m G
Legal m (forall A B F) = (m < 4) × LegalBound m A × LegalBound m B × Legal (suc m) F

-- ---- the bytes from a position on

pub one_byte : (s : List ℕ) (at : ℕ) → at + 1 ≤ length s → drop at s ≡ byte s at ∷ drop (at + 1) s
one_byte s at h = rw add-one (drop-cons s at 0 (omega arith))

pub more_bytes : (s : List ℕ) (at k j : ℕ) → suc k ≡ j → at + j ≤ length s → drop (at + k) s ≡ byte s (at + k) ∷ drop (at + j) s
more_bytes s at k j e h =
    let i : at + k < length s = omega arith in
    let x : suc (at + k) ≡ at + j = omega arith in
    drop-cons s (at + k) 0 i ∙ ap {B = List ℕ} (λ n. byte s (at + k) ∷ drop n s) x

pub four_bytes : (s : List ℕ) (at : ℕ) → at + 4 ≤ length s → drop at s ≡ byte s at ∷ byte s (at + 1) ∷ byte s (at + 2) ∷ byte s (at + 3) ∷ drop (at + 4) s
four_bytes s at h =
    rw (one_byte s at (omega arith), more_bytes s at 1 2 refl (omega arith), more_bytes s at 2 3 refl (omega arith), more_bytes s at 3 4 refl h)

-- ---- what the tests of a bound show

pub record TestedBound (s : List ℕ) (at m : ℕ) : Type 0 where
  pub known : byte s at ≤ 2
  pub in_scope : byte s at ≡ 2 → byte s (at + 1) ≤ m
  pub no_variable : (byte s at ≡ 2 → ⊥) → byte s (at + 1) ≡ 0
  pub no_offset : byte s at ≡ 1 → word s (at + 2) ≡ 0
  pub near : nat_abs (signed (word s (at + 2))) ≤ 4095

if_false : (x y : Bool) → x ≡ false → (x || y) ≡ true → y ≡ true
if_false true y e f = absurd (false≢true (sym e))
if_false false y e f = f

pub bound_tested : (P : Head → Type 0) (s : List ℕ) (at m : ℕ) (next : Head) → ((n : ℕ) → P (refuse n)) → (TestedBound s at m → P next) → P (require_bound s at m next)
unfolding require_bound
bound_tested P s at m next r k =
    require_holds P (leb kind 2) 5 _ (r 5)
    (λ a. require_holds P (not (eqb kind 2) || leb v m) 6 _ (r 6)
    (λ b. require_holds P (eqb kind 2 || eqb v 0) 23 _ (r 23)
    (λ c. require_holds P (not (eqb kind 1) || eqb w 0) 24 _ (r 24)
    (λ d. require_holds P (leb (nat_abs (signed w)) 4095) 8 next (r 8)
    (λ e. k (record {
      known = leb-true _ _ a;
      in_scope = λ h. leb-true _ _ (if_true (eqb kind 2) (leb v m) (eq-eqb kind 2 h) b);
      no_variable = λ h. eqb-true _ _ (if_false (eqb kind 2) (eqb v 0) (ne_eqb kind 2 h) c);
      no_offset = λ h. eqb-true _ _ (if_true (eqb kind 1) (eqb w 0) (eq-eqb kind 1 h) d);
      near = leb-true _ _ e;
    }))))))
  where
    kind : ℕ
    kind = byte s at

    v : ℕ
    v = byte s (at + 1)

    w : ℕ
    w = word s (at + 2)

pub bound_legal : (s : List ℕ) (at m : ℕ) → TestedBound s at m → LegalBound m (bound s at)
unfolding bound
bound_legal s at m t = go (eqb (byte s at) 0) (eqb (byte s at) 1) refl refl
  where
    go : (a b : Bool) → eqb (byte s at) 0 ≡ a → eqb (byte s at) 1 ≡ b
        → LegalBound m (cond a (origin (signed (word s (at + 2)))) (cond b infinity (variable (byte s (at + 1)) (signed (word s (at + 2))))))
    go true b e f = t.near
    go false true e f = tt
    go false false e f =
        let k = t.known in
        (t.in_scope (omega (arith, eqb-false (byte s at) 0 e, eqb-false (byte s at) 1 f)), t.near)

-- A 16-bit word is the word of the number that it says.
word_back : (w : ℕ) → w < 65536 → offset_word (signed w) ≡ w
unfolding signed
word_back w h = go (ltb w 32768) refl
  where
    go : (b : Bool) → ltb w 32768 ≡ b → offset_word (cond b (pos w) (negsuc (65535 - w))) ≡ w
    go true e = refl
    go false e = omega arith

word_bytes : (x y : ℕ) → x < 256 → y < 256 → (z : ℤ) → offset_word z ≡ x + 256 * y → offset_bytes z ≡ x ∷ y ∷ []
word_bytes x y g h z e =
    let a : offset_word z % 256 ≡ x = omega arith in
    let b : offset_word z / 256 ≡ y = omega arith in
    rw (a, b)

offset_back : (s : List ℕ) (at : ℕ) → Bytes s → offset_bytes (signed (word s (at + 2))) ≡ byte s (at + 2) ∷ byte s (at + 3) ∷ []
unfolding word
offset_back s at b =
    let e : at + 2 + 1 ≡ at + 3 = omega arith in
    rw e (go (byte s (at + 2)) (byte s (at + 3)) (b (at + 2)) (b (at + 3)))
  where
    go : (x y : ℕ) → x < 256 → y < 256 → offset_bytes (signed (x + 256 * y)) ≡ x ∷ y ∷ []
    go x y g h = word_bytes x y g h (signed (x + 256 * y)) (word_back (x + 256 * y) (omega arith))

zero_word : (r : List ℕ) → 1 ∷ 0 ∷ (offset_bytes (signed 0) ++ r) ≡ 1 ∷ 0 ∷ 0 ∷ 0 ∷ r
unfolding signed
zero_word r = refl

pub bound_written : (s : List ℕ) (at m : ℕ) → Bytes s → TestedBound s at m → at + 4 ≤ length s → drop at s ≡ bound_bytes (bound s at) ++ drop (at + 4) s
unfolding bound bound_bytes
bound_written s at m b t h =
    four_bytes s at h
    ∙ ap {B = List ℕ} (λ (x : List ℕ). byte s at ∷ byte s (at + 1) ∷ (x ++ drop (at + 4) s)) (sym (offset_back s at b))
    ∙ go (byte s at) (byte s (at + 1)) (word s (at + 2)) (eqb (byte s at) 0) (eqb (byte s at) 1) refl refl t.known t.no_variable t.no_offset
  where
    go : (k v w : ℕ) (x y : Bool) → eqb k 0 ≡ x → eqb k 1 ≡ y → k ≤ 2 → ((k ≡ 2 → ⊥) → v ≡ 0) → (k ≡ 1 → w ≡ 0)
        → k ∷ v ∷ (offset_bytes (signed w) ++ drop (at + 4) s) ≡ bound_bytes (cond x (origin (signed w)) (cond y infinity (variable v (signed w)))) ++ drop (at + 4) s
    go k v w true y e f l n o =
        let i = eqb-true k 0 e in
        let j : v ≡ 0 = n (λ q. omega arith) in
        rw (i, j)
    go k v w false true e f l n o =
        let i = eqb-true k 1 f in
        let j : v ≡ 0 = n (λ q. omega arith) in
        rw (i, j, o i) (zero_word (drop (at + 4) s))
    go k v w false false e f l n o =
        let i : k ≡ 2 = omega (arith, eqb-false k 0 e, eqb-false k 1 f) in
        rw i
