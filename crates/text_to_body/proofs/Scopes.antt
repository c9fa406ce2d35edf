-- Names in scope, and the numbers that digits say.
use Prim.Native.Nat.{ℕ, zero, suc, ◌+◌, ◌-◌, ◌*◌, ◌/◌, ◌%◌, ◌≤◌, ◌<◌}
use mathlib.Core.Path.{◌≡◌, refl, ap, sym, ◌∙◌, subst}
use mathlib.Core.Bool.{Bool, true, false, cond}
use mathlib.Core.List.{List, [], ◌∷◌, ◌++◌, append_assoc}
use native.Mathlib.Omega.{arith}
use lib.Dec.{leb}
use lib.ListN.{length, drop, take, get_or, set, length-set, length-drop}
use lib.Seq.{drop-cons, drop-drop, take_at, take-suc-set, get_or-drop}
use borrow.Author.Tests.{leb-true, le-leb}
use Rattle.std.specs.Prelude.{Option, Some, None, is_some, IsSome, slice_range}
use Rattle.std.proofs.lemmas.List.{take_all}
use Rattle.notation.specs.Notation.{Base, origin, infinity, position, infinity_word, in_sign, to_sign, colon_sign, is_name, End, end, Offset, nothing, plus, minus, letter, digit, between, same, is_numeral}
use Rattle.notation.specs.Reading.{Got, none, got, and_read, starts, Token, flag_token, negate_token, open_token, forall_token, one_digit, flag_digit, flag_point, read_flag, forall_colon, forall_second, forall_to, forall_first, forall_range, read_forall, run, past, read_name, read_base, read_numeral, read_offset, read_end}
use Rattle.notation.specs.Bodies.{seek, value_on, offset_word, base_bytes, word_bytes, end_bytes}
use Rattle.text_pieces.specs.Spots.{Found}
use Rattle.text_to_body.specs.Work.{scope_of, sought}
use Rattle.refusal.proofs.Bools.{and_true}
use Rattle.notation.proofs.Spelling.{run_past, Gets, gets_bind, gets_cond, gets_expect, gets_digit}
use Rattle.text_pieces.proofs.Scanning.{run_none, run_rest}

-- ---- parts and positions

run_take : (p : ℕ → Bool) (s : List ℕ) (n : ℕ) → length (run p s) ≡ n → take n s ≡ run p s
run_take p s n e = ap (take n) (run_past p s) ∙ take_at (run p s) (past p s) n e

pub run_part : (p : ℕ → Bool) (s : List ℕ) (b f : ℕ) → f ≡ b + length (run p (drop b s)) → take (f - b) (drop b s) ≡ run p (drop b s)
run_part p s b f h = run_take p (drop b s) (f - b) (omega arith)

-- ---- names

length_scope : (s names : List ℕ) (m : ℕ) → length (scope_of s names m) ≡ m
unfolding scope_of
length_scope s names zero = refl
length_scope s names (suc m) = ap suc (length_scope s names m)

module _ (s names n : List ℕ) (i : ℕ) (e : i ≡ suc (i - 1)) where
  one_more : seek (scope_of s names i) n ≡ cond (same (run letter (drop (get_or names (i - 1) 0) s)) n) i (seek (scope_of s names (i - 1)) n)
  unfolding seek scope_of
  one_more =
      ap (λ (j : ℕ). seek (scope_of s names j) n) e
      ∙ ap (λ (j : ℕ). cond (same (run letter (drop (get_or names (i - 1) 0) s)) n) j (seek (scope_of s names (i - 1)) n)) (ap suc (length_scope s names (i - 1)) ∙ sym e)

  pub seek_hit : same (run letter (drop (get_or names (i - 1) 0) s)) n ≡ true → seek (scope_of s names i) n ≡ i
  seek_hit t = one_more ∙ rw t

  pub seek_miss : same (run letter (drop (get_or names (i - 1) 0) s)) n ≡ false → seek (scope_of s names i) n ≡ seek (scope_of s names (i - 1)) n
  seek_miss t = one_more ∙ rw t

pub seek_none : (s names n : List ℕ) (i : ℕ) → i ≡ 0 → seek (scope_of s names i) n ≡ 0
unfolding seek scope_of
seek_none s names n i e = rw e

-- A name is bound where it was found.
pub sought_bound : (o : Option ℕ) (n : ℕ) → sought o ≡ n → is_some o ≡ leb 1 n
sought_bound None n e = ap (leb 1) e
sought_bound (Some v) n e = sym (le-leb 1 n (omega arith))

-- ---- numbers

pub digit_least : (c : ℕ) → digit c ≡ true → 48 ≤ c
unfolding between
digit_least c h = leb-true 48 c (and_true (leb 48 c) (leb c 57) h).0

module _ (s : List ℕ) (i n : ℕ) where
  pub value_more : i < length s → digit (get_or s i 0) ≡ true → value_on n (run digit (drop i s)) ≡ value_on ((n * 10 + (get_or s i 0 - 48)) % 65536) (run digit (drop (suc i) s))
  unfolding value_on run
  value_more h e = rw (drop-cons s i 0 h, e)

  pub value_done : run digit (drop i s) ≡ [] → value_on n (run digit (drop i s)) ≡ n
  unfolding value_on
  value_done e = rw e

-- The digits at a position are those at the start of the rest.
pub value_there : (s t : List ℕ) (at v : ℕ) → t ≡ slice_range s at (length s) → v ≡ value_on 0 (run digit t) → v ≡ value_on 0 (run digit (drop at s))
value_there s t at v e f =
    f ∙ ap (λ (x : List ℕ). value_on 0 (run digit x)) (e ∙ take_all (length s - at) (drop at s) (omega (arith, length-drop at s)))

pub value_past : (s : List ℕ) (at : ℕ) → length s < at → 0 ≡ value_on 0 (run digit (drop at s))
unfolding value_on
value_past s at h = rw (run_none digit s at (omega arith))

taken : (make : List ℕ → Offset) (s : List ℕ) (o : Offset) (t : List ℕ) → and_read (read_numeral s) (λ d u. got (make d) u) ≡ got o t → o ≡ make (run digit s)
unfolding and_read read_numeral
taken make s o t e = go (is_numeral (run digit s)) e
  where
    go : (b : Bool) → and_read (cond b (got (run digit s) (past digit s)) none) (λ d u. got (make d) u) ≡ got o t → o ≡ make (run digit s)
    go true e = cc
    go false e = absurd (let z : ◌≡◌ {A = ℕ} 0 1 = cc in omega arith)

module _ (s : List ℕ) (at : ℕ) (o : Offset) (t : List ℕ) (e : read_offset (drop at s) ≡ got o t) where
  pub plus_word : starts (43 ∷ []) (drop at s) ≡ true → offset_word o ≡ value_on 0 (run digit (drop (at + 1) s))
  unfolding read_offset offset_word
  plus_word h = ap offset_word (taken plus (drop (at + 1) s) o t (rw (h, drop-drop 1 at s) at e))

  pub minus_word : starts (43 ∷ []) (drop at s) ≡ false → starts (45 ∷ []) (drop at s) ≡ true → offset_word o ≡ (65536 - value_on 0 (run digit (drop (at + 1) s))) % 65536
  unfolding read_offset offset_word
  minus_word h k = ap offset_word (taken minus (drop (at + 1) s) o t (rw (h, k, drop-drop 1 at s) at e))

  pub no_word : starts (43 ∷ []) (drop at s) ≡ false → starts (45 ∷ []) (drop at s) ≡ false → offset_word o ≡ 0
  unfolding read_offset offset_word
  no_word h k = let f : got nothing (drop at s) ≡ got o t = rw (h, k) at e in ap offset_word (let g : o ≡ nothing = cc in g)

-- ---- stores

pub take_two : (l : List ℕ) (o a b : ℕ) → o + 2 ≤ length l → take (o + 2) (set (set l o a) (o + 1) b) ≡ take o l ++ (a ∷ b ∷ [])
take_two l o a b h =
    let e : o + 2 ≡ suc (suc o) = omega arith in
    let f : o + 1 ≡ suc o = omega arith in
    rw (e, f)
    (take-suc-set (set l o a) (suc o) b (omega (arith, length-set l o a))
    ∙ ap (λ (x : List ℕ). x ++ (b ∷ [])) (take-suc-set l o a (omega arith))
    ∙ append_assoc (take o l) (a ∷ []) (b ∷ []))

module _ (s : List ℕ) (at : ℕ) (b : Base) (t : List ℕ) (e : read_base (drop at s) ≡ got b t) where
  pub is_origin : starts (48 ∷ []) (drop at s) ≡ true → b ≡ origin
  unfolding read_base
  is_origin h = let f : got origin (drop 1 (drop at s)) ≡ got b t = rw h at e in let g : b ≡ origin = cc in g

  pub is_infinity : starts (48 ∷ []) (drop at s) ≡ false → same (run letter (drop at s)) infinity_word ≡ true → b ≡ infinity
  unfolding read_base
  is_infinity h k = let f : got infinity (past letter (drop at s)) ≡ got b t = rw (h, k) at e in let g : b ≡ infinity = cc in g

  pub is_position : starts (48 ∷ []) (drop at s) ≡ false → same (run letter (drop at s)) infinity_word ≡ false → b ≡ position (run letter (drop at s))
  unfolding read_base and_read read_name
  is_position h k = go (is_name (run letter (drop at s))) (rw (h, k) at e)
    where
      go : (c : Bool) → and_read (cond c (got (run letter (drop at s)) (past letter (drop at s))) none) (λ n u. got (position n) u) ≡ got b t → b ≡ position (run letter (drop at s))
      go true e = cc
      go false e = absurd (let z : ◌≡◌ {A = ℕ} 0 1 = cc in omega arith)

-- A bound, from its base and its offset.
module _ (s : List ℕ) (at q : ℕ) (f : Found s (Some q) (read_base (drop at s))) where
  pub end_parts : (E : End) (t : List ℕ) → read_end (drop at s) ≡ got E t
      → (b : Base) × (o : Offset) × (E ≡ end b o) × (read_base (drop at s) ≡ got b (drop q s)) × (read_offset (drop q s) ≡ got o t)
  unfolding read_end and_read
  end_parts E t e = go (read_base (drop at s)) f e
    where
      ends : (b : Base) (y : Got Offset) → and_read y (λ o v. got (end b o) v) ≡ got E t → (o : Offset) × (E ≡ end b o) × (y ≡ got o t)
      ends b none e = absurd (let z : ◌≡◌ {A = ℕ} 0 1 = cc in omega arith)
      ends b (got o v) e = (o, cc, cc)

      go : (x : Got Base) → Found s (Some q) x → and_read x (λ b u. and_read (read_offset u) (λ o v. got (end b o) v)) ≡ got E t
          → (b : Base) × (o : Offset) × (E ≡ end b o) × (x ≡ got b (drop q s)) × (read_offset (drop q s) ≡ got o t)
      go none f e = absurd (let z : ◌≡◌ {A = ℕ} 0 1 = cc in omega arith)
      go (got b u) f e = let g = ends b (read_offset u) (e) in (b, g.0, g.1, ap (got b) f.2, ap read_offset (sym f.2) ∙ g.2)

-- Its base alone.
pub end_base : (y : List ℕ) (E : End) (t : List ℕ) → read_end y ≡ got E t → (b : Base) × (o : Offset) × (u : List ℕ) × (E ≡ end b o) × (read_base y ≡ got b u)
unfolding read_end and_read
end_base y E t e = go (read_base y) e
  where
    ends : (b : Base) (y : Got Offset) → and_read y (λ o v. got (end b o) v) ≡ got E t → (o : Offset) × (E ≡ end b o)
    ends b none e = absurd (let z : ◌≡◌ {A = ℕ} 0 1 = cc in omega arith)
    ends b (got o v) e = (o, cc)

    go : (x : Got Base) → and_read x (λ b u. and_read (read_offset u) (λ o v. got (end b o) v)) ≡ got E t
        → (b : Base) × (o : Offset) × (u : List ℕ) × (E ≡ end b o) × (x ≡ got b u)
    go none e = absurd (let z : ◌≡◌ {A = ℕ} 0 1 = cc in omega arith)
    go (got b u) e = let g = ends b (read_offset u) e in (b, g.0, u, g.1, refl)

-- Without a base there is no bound.
pub no_end : (s : List ℕ) (at : ℕ) (E : End) (t : List ℕ) → Found s None (read_base (drop at s)) → read_end (drop at s) ≡ got E t → ⊥
no_end s at E t f e = let b = end_base (drop at s) E t e in let g = subst (Found s None) b.4 f in g

-- The offset of a bound, where its base ends at `q`.
pub end_offset : (s : List ℕ) (at q : ℕ) (b : Base) (o : Offset) (t : List ℕ) → Found s (Some q) (read_base (drop at s)) → read_end (drop at s) ≡ got (end b o) t → read_offset (drop q s) ≡ got o t
end_offset s at q b o t f e =
    let p = end_parts s at q f (end b o) t e in
    let m : o ≡ p.1 = let n : end b o ≡ end p.0 p.1 = p.2 in cc in
    p.4 ∙ ap (λ (x : Offset). got x t) (sym m)

-- What is read is found.
pub there : {A : Type 0} (s : List ℕ) (o : Option ℕ) (x : Got A) (a : A) (t : List ℕ) → Found s o x → x ≡ got a t → IsSome o
there s None x a t f e = absurd (subst (Found s None) e f)
there s (Some q) x a t f e = refl

pub end_written : (scope : List (List ℕ)) (b : Base) (o : Offset) (l m : List ℕ) (x : ℕ) → x ≡ offset_word o → m ≡ l ++ base_bytes scope b
    → m ++ ((x % 256) ∷ (x / 256 % 256) ∷ []) ≡ l ++ end_bytes scope (end b o)
unfolding end_bytes word_bytes
end_written scope b o l m x e h = rw (h, e) (append_assoc l (base_bytes scope b) ((offset_word o % 256) ∷ (offset_word o / 256 % 256) ∷ []))

-- ---- a flag's name and digit

abbrev FlagParts : List ℕ → Token → List ℕ → Type 0
FlagParts y (flag_token n k) v = (n ≡ run letter y) × (digit k ≡ true) × (past letter y ≡ 46 ∷ k ∷ v)
FlagParts y negate_token v = Unit {0}
FlagParts y open_token v = Unit {0}
FlagParts y (forall_token n A B) v = Unit {0}

gets_run : (y : List ℕ) → Gets (λ n t. (n ≡ run letter y) × (t ≡ past letter y)) (read_name y)
unfolding read_name
gets_run y = gets_cond (λ n t. (n ≡ run letter y) × (t ≡ past letter y)) (is_name (run letter y)) _ none (λ e. (refl, refl)) (λ e. tt)

gets_flag_at : (y : List ℕ) → Gets (FlagParts y) (read_flag y)
unfolding read_flag flag_point flag_digit
gets_flag_at y =
    gets_bind (λ n t. (n ≡ run letter y) × (t ≡ past letter y)) (FlagParts y) (read_name y) flag_point (gets_run y)
    (λ n t h. gets_expect (FlagParts y) (46 ∷ []) t (flag_digit n)
    (λ u x. gets_bind (λ k v. (digit k ≡ true) × (u ≡ k ∷ v)) (FlagParts y) (one_digit u) (λ k v. got (flag_token n k) v) (gets_digit u)
    (λ k v g. (h.0, g.0, cc (h.1, x, g.1)))))

module _ (s : List ℕ) (at e : ℕ) (r : e ≡ at + length (run letter (drop at s))) (n : List ℕ) (k : ℕ) (t : List ℕ) (h : read_flag (drop at s) ≡ got (flag_token n k) t) where
  flag_at : FlagParts (drop at s) (flag_token n k) t
  flag_at = subst (Gets (FlagParts (drop at s))) h (gets_flag_at (drop at s))

  flag_rest : drop e s ≡ 46 ∷ k ∷ t
  flag_rest = sym (run_rest letter s at e r) ∙ flag_at.2

  pub flag_name : n ≡ run letter (drop at s)
  flag_name = flag_at.0

  pub flag_inside : e + 1 < length s
  flag_inside = omega (arith, ap length flag_rest, length-drop e s)

  pub flag_digit_there : get_or s (e + 1) 0 ≡ k
  flag_digit_there = sym (get_or-drop e s 1 0) ∙ ap (λ (x : List ℕ). get_or x 1 0) flag_rest

  pub flag_digit_least : 48 ≤ get_or s (e + 1) 0
  flag_digit_least = omega (arith, flag_digit_there, digit_least k flag_at.1)

pub take_three : (l m : List ℕ) (o x y : ℕ) → o < length l → take (o + 1 + 2) m ≡ take (o + 1) (set l o 1) ++ (x ∷ y ∷ []) → take (o + 3) m ≡ take o l ++ (1 ∷ x ∷ y ∷ [])
take_three l m o x y h e =
    let z : o + 3 ≡ o + 1 + 2 = omega arith in
    let f : o + 1 ≡ suc o = omega arith in
    ap (λ (j : ℕ). take j m) z ∙ e
    ∙ ap (λ (j : ℕ). take j (set l o 1) ++ (x ∷ y ∷ [])) f
    ∙ ap (λ (w : List ℕ). w ++ (x ∷ y ∷ [])) (take-suc-set l o 1 h)
    ∙ append_assoc (take o l) (1 ∷ []) (x ∷ y ∷ [])

-- ---- a quantifier's bounds

abbrev pub ForallParts : List ℕ → Token → List ℕ → Type 0
ForallParts y (forall_token n A B) v =
    (n ≡ run letter y) × ((u : List ℕ) × (w : List ℕ) × (past letter y ≡ in_sign ++ u) × (read_end u ≡ got A (to_sign ++ w)) × (read_end w ≡ got B (colon_sign ++ v)))
ForallParts y (flag_token n k) v = Unit {0}
ForallParts y negate_token v = Unit {0}
ForallParts y open_token v = Unit {0}

gets_self : {A : Type 0} (x : Got A) → Gets (λ a t. x ≡ got a t) x
gets_self none = tt
gets_self (got a t) = refl

gets_forall_at : (y : List ℕ) → Gets (ForallParts y) (read_forall y)
unfolding read_forall forall_range forall_first forall_to forall_second forall_colon
gets_forall_at y =
    gets_bind (λ n t. (n ≡ run letter y) × (t ≡ past letter y)) (ForallParts y) (read_name y) forall_range (gets_run y)
    (λ n t h. gets_expect (ForallParts y) in_sign t (forall_first n)
    (λ u x. gets_bind (λ A v. read_end u ≡ got A v) (ForallParts y) (read_end u) (forall_to n) (gets_self (read_end u))
    (λ A v a. gets_expect (ForallParts y) to_sign v (forall_second n A)
    (λ w z. gets_bind (λ B p. read_end w ≡ got B p) (ForallParts y) (read_end w) (forall_colon n A) (gets_self (read_end w))
    (λ B p b. gets_expect (ForallParts y) colon_sign p (λ q. got (forall_token n A B) q)
    (λ q g. (h.0, (u, w, sym h.1 ∙ x, a ∙ ap (got A) z, b ∙ ap (got B) g))))))))

pub forall_named : (y n : List ℕ) (A B : End) (t : List ℕ) → read_forall y ≡ got (forall_token n A B) t → n ≡ run letter y
forall_named y n A B t h = let g : ForallParts y (forall_token n A B) t = subst (Gets (ForallParts y)) h (gets_forall_at y) in g.0

module _ (s : List ℕ) (at e : ℕ) (r : e ≡ at + length (run letter (drop at s))) (n : List ℕ) (A B : End) (t : List ℕ) (h : read_forall (drop at s) ≡ got (forall_token n A B) t) where
  pub forall_facts : ForallParts (drop at s) (forall_token n A B) t
  forall_facts = subst (Gets (ForallParts (drop at s))) h (gets_forall_at (drop at s))

  first_text : drop (e + 4) s ≡ forall_facts.1.0
  first_text = sym (drop-drop 4 e s) ∙ ap (drop 4) (sym (run_rest letter s at e r) ∙ forall_facts.1.2)

  pub forall_room : e + 4 ≤ length s
  forall_room = omega (arith, ap length (sym (run_rest letter s at e r) ∙ forall_facts.1.2), length-drop e s)

  pub first_end : read_end (drop (e + 4) s) ≡ got A (to_sign ++ forall_facts.1.1)
  first_end = ap read_end first_text ∙ forall_facts.1.3

  module _ (q : ℕ) (f : Found s (Some q) (read_end (drop (e + 4) s))) where
    first_found : (q ≤ length s) × (to_sign ++ forall_facts.1.1 ≡ drop q s)
    first_found = let g = subst (Found s (Some q)) first_end f in (g.1, g.2)

    pub second_room : q + 2 ≤ length s
    second_room = omega (arith, first_found.0, ap length first_found.1, length-drop q s)

    pub second_end : read_end (drop (q + 2) s) ≡ got B (colon_sign ++ t)
    second_end = ap read_end (sym (drop-drop 2 q s) ∙ ap (drop 2) (sym first_found.1)) ∙ forall_facts.1.4

pub take_nine : (l m₁ m₂ : List ℕ) (o : ℕ) (x y : List ℕ) → o < length l → take (o + 1 + 4) m₁ ≡ take (o + 1) (set l o 5) ++ x → take (o + 5 + 4) m₂ ≡ take (o + 5) m₁ ++ y
    → take (o + 9) m₂ ≡ take o l ++ (5 ∷ (x ++ y))
take_nine l m₁ m₂ o x y h e f =
    let z : o + 9 ≡ o + 5 + 4 = omega arith in
    let w : o + 5 ≡ o + 1 + 4 = omega arith in
    let v : o + 1 ≡ suc o = omega arith in
    ap (λ (j : ℕ). take j m₂) z ∙ f
    ∙ ap (λ (j : ℕ). take j m₁ ++ y) w
    ∙ ap (λ (k : List ℕ). k ++ y) (e ∙ ap (λ (j : ℕ). take j (set l o 5) ++ x) v ∙ ap (λ (k : List ℕ). k ++ x) (take-suc-set l o 5 h))
    ∙ ap (λ (k : List ℕ). k ++ y) (append_assoc (take o l) (5 ∷ []) x)
    ∙ append_assoc (take o l) (5 ∷ x) y
