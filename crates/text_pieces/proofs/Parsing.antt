-- What each function over positions finds, one law to a way through it: `r` is what the function answers.
use Prim.Native.Nat.{ℕ, ◌+◌, ◌-◌, ◌≤◌, ◌<◌}
use mathlib.Core.Path.{◌≡◌, refl, ap, sym, ◌∙◌}
use mathlib.Core.Bool.{Bool, true, false, not}
use mathlib.Core.List.{List, [], ◌∷◌}
use native.Mathlib.Omega.{arith}
use lib.ListN.{length, drop}
use lib.Seq.{drop-drop}
use borrow.Author.Tests.{le-leb, lt-leb}
use Rattle.std.specs.Prelude.{Option, Some, None}
use Rattle.std.specs.Option.{option_or}
use Rattle.std.specs.Bool.{then_some}
use Rattle.notation.specs.Notation.{position, plus, minus, End, end, infinity_word, forall_sign, in_sign, to_sign, colon_sign, monitor_sign, then_sign, beside_sign, letter, digit, same, reserved, is_name, is_numeral}
use Rattle.notation.specs.Reading.{Got, none, got, and_read, starts, expect, run, past, read_name, read_numeral, one_digit, read_base, read_offset, read_end, Token, flag_token, negate_token, open_token, forall_token, flag_digit, flag_point, read_flag, forall_colon, forall_second, forall_to, forall_first, forall_range, read_forall, read_token, joint, beside_joint, rule_colon, rule_name, rule_head}
use Rattle.text_pieces.specs.Spots.{Found, word_read, FlagAt, ForallAt, Pieced}
use Rattle.text_pieces.specs.declared.pieces.Piece.{Piece}
use Rattle.notation.proofs.Spelling.{same_eq, name_least, Gets, gets_bind, gets_expect}
use Rattle.text_pieces.proofs.Scanning.{run_all, run_fits, run_rest}
use Rattle.text_pieces.proofs.Finding.{found_some, found_none, found_stop, found_through, found_as, found_word, found_miss, found_last, word_fits, word_starts, word_missing, word_after, word_length, word_within}

-- A run of more than four digits is no numeral.
pub numeral_over : (t : List ℕ) → 4 < length (run digit t) → read_numeral t ≡ none
unfolding read_numeral is_numeral
numeral_over t k = rw (run_all digit t, le-leb 1 (length (run digit t)) (omega arith), lt-leb (length (run digit t)) 4 k)

-- ---- names and numerals

module _ (s : List ℕ) where
  pub name_short : length (run letter s) < 1 → false ≡ is_name (run letter s)
  unfolding is_name
  name_short h = rw (run_all letter s, lt-leb 1 (length (run letter s)) h)

  pub name_long : 8 < length (run letter s) → false ≡ is_name (run letter s)
  unfolding is_name
  name_long h = rw (run_all letter s, le-leb 1 (length (run letter s)) (omega arith), lt-leb (length (run letter s)) 8 h)

  pub name_fits : 1 ≤ length (run letter s) → length (run letter s) ≤ 8 → not (reserved (run letter s)) ≡ is_name (run letter s)
  unfolding is_name
  name_fits h k = rw (run_all letter s, le-leb 1 (length (run letter s)) h, le-leb (length (run letter s)) 8 k)

module _ (s : List ℕ) (at : ℕ) where
  -- A run that is not empty, where it ends at e.
  run_found : (p : ℕ → Bool) (e : ℕ) → e ≡ at + length (run p (drop at s)) → 1 ≤ length (run p (drop at s)) → Found s (Some e) (got (run p (drop at s)) (past p (drop at s)))
  run_found p e h k = (omega arith, omega (arith, run_fits p s at), run_rest p s at e h)

  module _ (e : ℕ) where
    pub name_found : (b : Bool) → e ≡ at + length (run letter (drop at s)) → b ≡ is_name (run letter (drop at s)) → Found s (then_some b e) (read_name (drop at s))
    unfolding read_name
    name_found true h t = rw (sym t) (run_found letter e h (name_least (run letter (drop at s)) (sym t)))
    name_found false h t = rw (sym t) tt

    module _ (h : e ≡ at + length (run digit (drop at s))) where
      pub numeral_short : e - at < 1 → Found s None (read_numeral (drop at s))
      unfolding read_numeral is_numeral
      numeral_short k = rw (run_all digit (drop at s), lt-leb 1 (length (run digit (drop at s))) (omega arith)) tt

      pub numeral_long : 4 < e - at → Found s None (read_numeral (drop at s))
      unfolding read_numeral is_numeral
      numeral_long k =
          rw (
            run_all digit (drop at s),
            le-leb 1 (length (run digit (drop at s))) (omega arith),
            lt-leb (length (run digit (drop at s))) 4 (omega arith),
          ) tt

      pub numeral_there : 1 ≤ e - at → e - at ≤ 4 → Found s (Some e) (read_numeral (drop at s))
      unfolding read_numeral is_numeral
      numeral_there k l =
          rw (
            run_all digit (drop at s),
            le-leb 1 (length (run digit (drop at s))) (omega arith),
            le-leb (length (run digit (drop at s))) 4 (omega arith),
          ) (run_found digit e h (omega arith))

-- ---- bounds

module _ (s : List ℕ) (at : ℕ) where
  pub base_zero : starts (48 ∷ []) (drop at s) ≡ true → Found s (Some (at + 1)) (read_base (drop at s))
  unfolding read_base
  base_zero t = rw (t, drop-drop 1 at s) (omega arith, word_fits s (48 ∷ []) at (omega arith) t, refl)

  module _ (z : starts (48 ∷ []) (drop at s) ≡ false) where
    pub base_infinity : (e : ℕ) → e ≡ at + length (run letter (drop at s)) → same (run letter (drop at s)) infinity_word ≡ true → Found s (Some e) (read_base (drop at s))
    unfolding read_base
    base_infinity e h t = rw (z, t) (run_found s at letter e h (omega (arith, ap length (same_eq (run letter (drop at s)) infinity_word t))))

    pub base_name : (r : Option ℕ) → same (run letter (drop at s)) infinity_word ≡ false → Found s r (read_name (drop at s)) → Found s r (read_base (drop at s))
    unfolding read_base
    base_name r t f = rw (z, t) (found_as s (read_name (drop at s)) position r f)

  -- The sign, where one stands; `v` and `w` are what is found of each.
  module _ (r v w o : Option ℕ) (either : o ≡ option_or v w) (f : Found s v (word_read (43 ∷ []) (drop at s))) (g : Found s w (word_read (45 ∷ []) (drop at s))) where
    pub offset_signed : (d : ℕ) → o ≡ Some d → Found s r (read_numeral (drop d s)) → Found s r (read_offset (drop at s))
    unfolding read_offset
    offset_signed d e h = go v w f g (sym e ∙ either)
      where
        go : (v w : Option ℕ) → Found s v (word_read (43 ∷ []) (drop at s)) → Found s w (word_read (45 ∷ []) (drop at s)) → Some d ≡ option_or v w → Found s r (read_offset (drop at s))
        go (Some x) w f g e =
            let q : d ≡ x = cc in
            rw (word_starts s (43 ∷ []) at x f, word_after s (43 ∷ []) at x f, sym q) (found_as s (read_numeral (drop d s)) plus r h)
        go None (Some x) f g e =
            let q : d ≡ x = cc in
            rw (word_missing s (43 ∷ []) at f, word_starts s (45 ∷ []) at x g, word_after s (45 ∷ []) at x g, sym q)
            (found_as s (read_numeral (drop d s)) minus r h)
        go None None f g e = absurd (cc)

    pub offset_none : o ≡ None → 1 ≤ at → at ≤ length s → Found s (Some at) (read_offset (drop at s))
    unfolding read_offset
    offset_none e h k = go v w f g (sym e ∙ either)
      where
        go : (v w : Option ℕ) → Found s v (word_read (43 ∷ []) (drop at s)) → Found s w (word_read (45 ∷ []) (drop at s)) → None ≡ option_or v w → Found s (Some at) (read_offset (drop at s))
        go (Some x) w f g e = absurd (cc)
        go None (Some x) f g e = absurd (cc)
        go None None f g e = rw (word_missing s (43 ∷ []) at f, word_missing s (45 ∷ []) at g) (h, k, refl)

  module _ (r : Option ℕ) where
    pub end_none : r ≡ None → Found s None (read_base (drop at s)) → Found s r (read_end (drop at s))
    unfolding read_end
    end_none e f = rw e (found_stop s (read_base (drop at s)) (λ x t. and_read (read_offset t) (λ o u. got (end x o) u)) f)

    pub end_there : (b : ℕ) → Found s (Some b) (read_base (drop at s)) → Found s r (read_offset (drop b s)) → Found s r (read_end (drop at s))
    unfolding read_end
    end_there b f g =
        found_through s (read_base (drop at s)) (λ x t. and_read (read_offset t) (λ o u. got (end x o) u)) b r f (λ x. found_as s (read_offset (drop b s)) (end x) r g)

-- ---- flags

module _ (s : List ℕ) (at : ℕ) (r : Option ℕ) where
  pub flag_1 : r ≡ None → Found s None (read_name (drop at s)) → Found s r (read_flag (drop at s))
  unfolding read_flag
  flag_1 e f = rw e (found_stop s (read_name (drop at s)) flag_point f)

  module _ (n : ℕ) (f : Found s (Some n) (read_name (drop at s))) where
    pub flag_2 : r ≡ None → Found s None (word_read (46 ∷ []) (drop n s)) → Found s r (read_flag (drop at s))
    unfolding read_flag flag_point
    flag_2 e g = rw e (found_through s (read_name (drop at s)) flag_point n None f (λ x. found_miss s (46 ∷ []) n (flag_digit x) g))

    pub flag_3 : (d : ℕ) → Found s (Some d) (word_read (46 ∷ []) (drop n s)) → Found s r (one_digit (drop d s)) → Found s r (read_flag (drop at s))
    unfolding read_flag flag_point flag_digit
    flag_3 d g h =
        found_through s (read_name (drop at s)) flag_point n r f
        (λ x. found_word s (46 ∷ []) n (flag_digit x) d r g (found_as s (one_digit (drop d s)) (flag_token x) r h))

-- ---- quantifiers

module _ (s : List ℕ) (at : ℕ) (r : Option ℕ) where
  pub forall_1 : r ≡ None → Found s None (read_name (drop at s)) → Found s r (read_forall (drop at s))
  unfolding read_forall
  forall_1 e f = rw e (found_stop s (read_name (drop at s)) forall_range f)

  module _ (n : ℕ) (f : Found s (Some n) (read_name (drop at s))) where
    by_name : (q : Option ℕ) → ((x : List ℕ) → Found s q (forall_range x (drop n s))) → Found s q (read_forall (drop at s))
    unfolding read_forall
    by_name q k = found_through s (read_name (drop at s)) forall_range n q f k

    pub forall_2 : r ≡ None → Found s None (word_read in_sign (drop n s)) → Found s r (read_forall (drop at s))
    unfolding forall_range
    forall_2 e g = rw e (by_name None (λ x. found_miss s in_sign n (forall_first x) g))

    module _ (i : ℕ) (g : Found s (Some i) (word_read in_sign (drop n s))) where
      by_first : (q : Option ℕ) → ((x : List ℕ) → Found s q (forall_first x (drop i s))) → Found s q (read_forall (drop at s))
      unfolding forall_range
      by_first q k = by_name q (λ x. found_word s in_sign n (forall_first x) i q g (k x))

      pub forall_3 : r ≡ None → Found s None (read_end (drop i s)) → Found s r (read_forall (drop at s))
      unfolding forall_first
      forall_3 e h = rw e (by_first None (λ x. found_stop s (read_end (drop i s)) (forall_to x) h))

      module _ (a : ℕ) (h : Found s (Some a) (read_end (drop i s))) where
        by_to : (q : Option ℕ) → ((x : List ℕ) (A : End) → Found s q (forall_to x A (drop a s))) → Found s q (read_forall (drop at s))
        unfolding forall_first
        by_to q k = by_first q (λ x. found_through s (read_end (drop i s)) (forall_to x) a q h (k x))

        pub forall_4 : r ≡ None → Found s None (word_read to_sign (drop a s)) → Found s r (read_forall (drop at s))
        unfolding forall_to
        forall_4 e j = rw e (by_to None (λ x A. found_miss s to_sign a (forall_second x A) j))

        module _ (t : ℕ) (j : Found s (Some t) (word_read to_sign (drop a s))) where
          by_second : (q : Option ℕ) → ((x : List ℕ) (A : End) → Found s q (forall_second x A (drop t s))) → Found s q (read_forall (drop at s))
          unfolding forall_to
          by_second q k = by_to q (λ x A. found_word s to_sign a (forall_second x A) t q j (k x A))

          pub forall_5 : r ≡ None → Found s None (read_end (drop t s)) → Found s r (read_forall (drop at s))
          unfolding forall_second
          forall_5 e k = rw e (by_second None (λ x A. found_stop s (read_end (drop t s)) (forall_colon x A) k))

          pub forall_6 : (b : ℕ) → Found s (Some b) (read_end (drop t s)) → Found s r (word_read colon_sign (drop b s)) → Found s r (read_forall (drop at s))
          unfolding forall_second forall_colon
          forall_6 b k w =
              by_second r
              (λ x A. found_through s (read_end (drop t s)) (forall_colon x A) b r k (λ B. found_last s colon_sign b (forall_token x A B) r w))

-- ---- the start of a formula

module _ (s : List ℕ) (at p : ℕ) where
  pub head_flag : Found s (Some p) (word_read (64 ∷ []) (drop at s)) → read_token (drop at s) ≡ read_flag (drop p s)
  unfolding read_token
  head_flag w = rw (word_starts s (64 ∷ []) at p w, word_after s (64 ∷ []) at p w) refl

  module _ (v : Found s None (word_read (64 ∷ []) (drop at s))) where
    pub head_negate : Found s (Some p) (word_read (126 ∷ []) (drop at s)) → read_token (drop at s) ≡ got negate_token (drop p s)
    unfolding read_token
    head_negate w = rw (word_missing s (64 ∷ []) at v, word_starts s (126 ∷ []) at p w, word_after s (126 ∷ []) at p w) refl

    module _ (w : Found s None (word_read (126 ∷ []) (drop at s))) where
      pub head_open : Found s (Some p) (word_read (40 ∷ []) (drop at s)) → read_token (drop at s) ≡ got open_token (drop p s)
      unfolding read_token
      head_open x = rw (word_missing s (64 ∷ []) at v, word_missing s (126 ∷ []) at w, word_starts s (40 ∷ []) at p x, word_after s (40 ∷ []) at p x) refl

      module _ (x : Found s None (word_read (40 ∷ []) (drop at s))) where
        pub head_none : Found s None (word_read forall_sign (drop at s)) → read_token (drop at s) ≡ none
        unfolding read_token expect
        head_none y =
            rw (word_missing s (64 ∷ []) at v, word_missing s (126 ∷ []) at w, word_missing s (40 ∷ []) at x, word_missing s forall_sign at y) refl

        pub head_forall : Found s (Some p) (word_read forall_sign (drop at s)) → read_token (drop at s) ≡ read_forall (drop p s)
        unfolding read_token expect
        head_forall y =
            rw (word_missing s (64 ∷ []) at v, word_missing s (126 ∷ []) at w, word_missing s (40 ∷ []) at x, word_starts s forall_sign at p y, word_after s forall_sign at p y) refl

-- ---- which tokens the two heads give

abbrev IsFlag : Token → Type 0
IsFlag (flag_token n k) = Unit {0}
IsFlag negate_token = ⊥
IsFlag open_token = ⊥
IsFlag (forall_token n A B) = ⊥

abbrev IsForall : Token → Type 0
IsForall (flag_token n k) = ⊥
IsForall negate_token = ⊥
IsForall open_token = ⊥
IsForall (forall_token n A B) = Unit {0}

gets_any : {A : Type 0} (x : Got A) → Gets (λ a t. Unit {0}) x
gets_any none = tt
gets_any (got a t) = tt

flag_shape : (s : List ℕ) → Gets (λ T t. IsFlag T) (read_flag s)
unfolding read_flag flag_point flag_digit
flag_shape s =
    gets_bind (λ n t. Unit {0}) (λ T t. IsFlag T) (read_name s) flag_point (gets_any (read_name s))
    (λ n t _. gets_expect (λ T t. IsFlag T) (46 ∷ []) t (flag_digit n)
    (λ u _. gets_bind (λ k t. Unit {0}) (λ T t. IsFlag T) (one_digit u) (λ k v. got (flag_token n k) v) (gets_any (one_digit u)) (λ k v _. tt)))

forall_shape : (s : List ℕ) → Gets (λ T t. IsForall T) (read_forall s)
unfolding read_forall forall_range forall_first forall_to forall_second forall_colon
forall_shape s =
    gets_bind (λ n t. Unit {0}) (λ T t. IsForall T) (read_name s) forall_range (gets_any (read_name s))
    (λ n t _. gets_expect (λ T t. IsForall T) in_sign t (forall_first n)
    (λ u _. gets_bind (λ k t. Unit {0}) (λ T t. IsForall T) (read_end u) (forall_to n) (gets_any (read_end u))
    (λ A v _. gets_expect (λ T t. IsForall T) to_sign v (forall_second n A)
    (λ w _. gets_bind (λ k t. Unit {0}) (λ T t. IsForall T) (read_end w) (forall_colon n A) (gets_any (read_end w))
    (λ B p _. gets_expect (λ T t. IsForall T) colon_sign p (λ q. got (forall_token n A B) q) (λ q _. tt))))))

module _ (s : List ℕ) (q : ℕ) where
  flag_at : (x : Got Token) (at : ℕ) → x ≡ read_flag (drop at s) → Found s (Some q) (read_flag (drop at s)) → FlagAt s at q x
  flag_at x at e f = let g = found_some s (read_flag (drop at s)) q f in go g.2 (read_flag (drop at s)) g.0 refl g.1 (flag_shape (drop at s))
    where
      go : q ≤ length s → (y : Got Token) (T : Token) → read_flag (drop at s) ≡ y → y ≡ got T (drop q s) → Gets (λ T t. IsFlag T) y → FlagAt s at q x
      go l none T m h j = absurd (let o : ◌≡◌ {A = ℕ} 0 1 = cc in omega arith)
      go l (got (flag_token n k) u) T m h j = record { inside = l; name = n; digit = k; is = cc; named = cc }
      go l (got negate_token u) T m h j = absurd j
      go l (got open_token u) T m h j = absurd j
      go l (got (forall_token n A B) u) T m h j = absurd j

  forall_at : (x : Got Token) (at : ℕ) → x ≡ read_forall (drop at s) → Found s (Some q) (read_forall (drop at s)) → ForallAt s at q x
  forall_at x at e f = let g = found_some s (read_forall (drop at s)) q f in go g.2 (read_forall (drop at s)) g.0 refl g.1 (forall_shape (drop at s))
    where
      go : q ≤ length s → (y : Got Token) (T : Token) → read_forall (drop at s) ≡ y → y ≡ got T (drop q s) → Gets (λ T t. IsForall T) y → ForallAt s at q x
      go l none T m h j = absurd (let o : ◌≡◌ {A = ℕ} 0 1 = cc in omega arith)
      go l (got (flag_token n k) u) T m h j = absurd j
      go l (got negate_token u) T m h j = absurd j
      go l (got open_token u) T m h j = absurd j
      go l (got (forall_token n A B) u) T m h j = record { inside = l; name = n; first = A; second = B; is = cc; named = cc }

-- ---- the start of a formula, one law to a way through `piece_at`

module _ (s : List ℕ) (at p : ℕ) where
  -- A sign of one byte leads on to the next byte.
  next_byte : (c : ℕ) → Found s (Some p) (word_read (c ∷ []) (drop at s)) → p ≡ at + 1
  next_byte c w = word_length s (c ∷ []) at p (omega arith) w

  module _ (w : Found s (Some p) (word_read (64 ∷ []) (drop at s))) where
    pub piece_1 : (r : Option Piece) → r ≡ None → Found s None (read_flag (drop p s)) → Pieced s at r (read_token (drop at s))
    piece_1 r e f = rw e (head_flag s at p w ∙ found_none s (read_flag (drop p s)) f)

    pub piece_2 : (q : ℕ) → Found s (Some q) (read_flag (drop p s)) → FlagAt s (at + 1) q (read_token (drop at s))
    piece_2 q f =
        let n = next_byte 64 w in
        flag_at s q (read_token (drop at s)) (at + 1) (rw (← n) (head_flag s at p w)) (rw (← n) f)

  module _ (v : Found s None (word_read (64 ∷ []) (drop at s))) where
    pub piece_3 : Found s (Some p) (word_read (126 ∷ []) (drop at s)) → (p ≤ length s) × (read_token (drop at s) ≡ got negate_token (drop p s))
    piece_3 w = ((found_some s (word_read (126 ∷ []) (drop at s)) p w).2, head_negate s at p v w)

    module _ (w : Found s None (word_read (126 ∷ []) (drop at s))) where
      pub piece_4 : Found s (Some p) (word_read (40 ∷ []) (drop at s)) → (p ≤ length s) × (read_token (drop at s) ≡ got open_token (drop p s))
      piece_4 x = ((found_some s (word_read (40 ∷ []) (drop at s)) p x).2, head_open s at p v w x)

      module _ (x : Found s None (word_read (40 ∷ []) (drop at s))) where
        pub piece_5 : (r : Option Piece) → r ≡ None → Found s None (word_read forall_sign (drop at s)) → Pieced s at r (read_token (drop at s))
        piece_5 r e y = rw e (head_none s at p v w x y)

        module _ (y : Found s (Some p) (word_read forall_sign (drop at s))) where
          pub piece_6 : (r : Option Piece) → r ≡ None → Found s None (read_forall (drop p s)) → Pieced s at r (read_token (drop at s))
          piece_6 r e f = rw e (head_forall s at p v w x y ∙ found_none s (read_forall (drop p s)) f)

          pub piece_7 : (q : ℕ) → Found s (Some q) (read_forall (drop p s)) → ForallAt s (at + 7) q (read_token (drop at s))
          piece_7 q f =
              let n = word_length s forall_sign at p (omega arith) y in
              forall_at s q (read_token (drop at s)) (at + 7) (rw (← n) (head_forall s at p v w x y)) (rw (← n) f)

-- ---- connectives

module _ (s : List ℕ) (at : ℕ) (r v w : Option ℕ) where
  pub joint_found : r ≡ option_or v w → Found s v (word_read then_sign (drop at s)) → Found s w (word_read beside_sign (drop at s)) → Found s r (joint (drop at s))
  unfolding joint
  joint_found e f g = rw e (go v w f g)
    where
      go : (v w : Option ℕ) → Found s v (word_read then_sign (drop at s)) → Found s w (word_read beside_sign (drop at s)) → Found s (option_or v w) (joint (drop at s))
      go (Some x) w f g = rw (word_starts s then_sign at x f, word_after s then_sign at x f) (word_within s then_sign at x f)
      go None w f g = rw (word_missing s then_sign at f) (found_last s beside_sign at beside_joint w g)

-- ---- the start of a rule

module _ (s : List ℕ) (r : Option ℕ) where
  pub rule_1 : r ≡ None → Found s None (word_read monitor_sign s) → Found s r (rule_head s)
  unfolding rule_head
  rule_1 e f = rw e (found_miss s monitor_sign 0 rule_name f)

  module _ (m : ℕ) (f : Found s (Some m) (word_read monitor_sign s)) where
    pub rule_2 : r ≡ None → Found s None (read_name (drop m s)) → Found s r (rule_head s)
    unfolding rule_head rule_name
    rule_2 e g = rw e (found_word s monitor_sign 0 rule_name m None f (found_stop s (read_name (drop m s)) rule_colon g))

    pub rule_3 : (n : ℕ) → Found s (Some n) (read_name (drop m s)) → Found s r (word_read colon_sign (drop n s)) → Found s r (rule_head s)
    unfolding rule_head rule_name rule_colon
    rule_3 n g h =
        found_word s monitor_sign 0 rule_name m r f
        (found_through s (read_name (drop m s)) rule_colon n r g (λ x. found_last s colon_sign n x r h))
