-- Laws of runs of letters and digits, of fixed words, and of what is read at the start of a text.
use Prim.Native.Nat.{ℕ, ◌≤◌}
use mathlib.Core.Path.{◌≡◌, refl, ap, sym, ◌∙◌}
use mathlib.Core.Bool.{Bool, true, false, not, cond, ◌&&◌, false≢true}
use mathlib.Core.List.{List, [], ◌∷◌, ◌++◌}
use lib.Dec.{leb, eqb}
use lib.ListN.{length, drop}
use borrow.Author.Tests.{not-true, leb-true, eqb-true, ne_eqb}
use Rattle.refusal.proofs.Bools.{and_true, or_false}
use Rattle.notation.specs.Notation.{letter, digit, all, same, reserved, is_name, is_numeral, infinity_word, monitor_word, forall_word, in_word}
use Rattle.notation.specs.Reading.{Got, none, got, and_read, starts, expect, run, past, read_name, read_numeral, one_digit}

-- ---- runs

unfoldable pub stops : (ℕ → Bool) → List ℕ → Bool
stops p [] = true
stops p (c ∷ s) = not (p c)

pub run_over : (p : ℕ → Bool) (x r : List ℕ) → all p x ≡ true → stops p r ≡ true → run p (x ++ r) ≡ x
unfolding run all stops
run_over p [] [] h k = refl
run_over p [] (c ∷ r) h k = rw (not-true (p c) k)
run_over p (c ∷ x) r h k =
    let e = and_true (p c) (all p x) h in
    rw (e.0, run_over p x r e.1 k)

pub past_over : (p : ℕ → Bool) (x r : List ℕ) → all p x ≡ true → stops p r ≡ true → past p (x ++ r) ≡ r
unfolding past all stops
past_over p [] [] h k = refl
past_over p [] (c ∷ r) h k = rw (not-true (p c) k)
past_over p (c ∷ x) r h k =
    let e = and_true (p c) (all p x) h in
    rw (e.0, past_over p x r e.1 k)

pub run_past : (p : ℕ → Bool) (s : List ℕ) → s ≡ run p s ++ past p s
unfolding run past
run_past p [] = refl
run_past p (c ∷ s) = go (p c) (run_past p s)
  where
    go : (b : Bool) → s ≡ run p s ++ past p s → c ∷ s ≡ cond b (c ∷ run p s) [] ++ cond b (past p s) (c ∷ s)
    go true e = ap {B = List ℕ} (λ t. c ∷ t) e
    go false e = refl

-- ---- names and numerals

pub name_letters : (n : List ℕ) → is_name n ≡ true → all letter n ≡ true
unfolding is_name
name_letters n h = (and_true (all letter n) _ h).0

pub name_least : (n : List ℕ) → is_name n ≡ true → 1 ≤ length n
unfolding is_name
name_least n h = leb-true 1 (length n) (and_true (leb 1 (length n)) _ (and_true (all letter n) _ h).1).0

pub name_free : (n : List ℕ) → is_name n ≡ true → same n infinity_word ≡ false
unfolding is_name reserved
name_free n h =
    let e = (and_true (leb (length n) 8) (not (reserved n)) (and_true (leb 1 (length n)) _ (and_true (all letter n) _ h).1).1).1 in
    let f = (or_false (same n monitor_word) _ (not-true (reserved n) e)).1 in
    (or_false (same n in_word) _ (or_false (same n forall_word) _ f).1).1

-- A name starts with a letter.
pub name_starts : (n r : List ℕ) (w : ℕ) → letter w ≡ false → is_name n ≡ true → starts (w ∷ []) (n ++ r) ≡ false
unfolding is_name all starts
name_starts [] r w k h = absurd (false≢true h)
name_starts (c ∷ n) r w k h =
    let e = (and_true (letter c) (all letter n) (and_true (letter c && all letter n) _ h).0).0 in
    rw (ne_eqb c w (λ q. false≢true (sym k ∙ ap letter (sym q) ∙ e)))

pub name_over : (n r : List ℕ) → is_name n ≡ true → stops letter r ≡ true → read_name (n ++ r) ≡ got n r
unfolding read_name
name_over n r h k = rw (run_over letter n r (name_letters n h) k, past_over letter n r (name_letters n h) k, h)

pub numeral_over : (d r : List ℕ) → is_numeral d ≡ true → stops digit r ≡ true → read_numeral (d ++ r) ≡ got d r
unfolding read_numeral is_numeral
numeral_over d r h k =
    let a = (and_true (all digit d) _ h).0 in
    rw (run_over digit d r a k, past_over digit d r a k, h)

-- ---- fixed words

pub starts_word : (w s : List ℕ) → starts w s ≡ true → s ≡ w ++ drop (length w) s
unfolding starts
starts_word [] s h = refl
starts_word (w ∷ ws) [] h = absurd (false≢true h)
starts_word (w ∷ ws) (c ∷ s) h =
    let e = and_true (eqb c w) (starts ws s) h in
    let q = eqb-true c w e.0 in
    let i = starts_word ws s e.1 in
    cc

pub same_eq : (s t : List ℕ) → same s t ≡ true → s ≡ t
unfolding same
same_eq [] [] h = refl
same_eq [] (d ∷ t) h = absurd (false≢true h)
same_eq (c ∷ s) [] h = absurd (false≢true h)
same_eq (c ∷ s) (d ∷ t) h =
    let e = and_true (eqb c d) (same s t) h in
    let q = eqb-true c d e.0 in
    let i = same_eq s t e.1 in
    cc

-- ---- what holds of a value read and of the text after it

abbrev pub Gets : {A : Type 0} → (A → List ℕ → Type 0) → Got A → Type 0
Gets P none = Unit {0}
Gets P (got a s) = P a s

pub gets_bind : {A B : Type 0} (P : A → List ℕ → Type 0) (Q : B → List ℕ → Type 0) (x : Got A) (next : A → List ℕ → Got B)
    → Gets P x → ((a : A) (s : List ℕ) → P a s → Gets Q (next a s)) → Gets Q (and_read x next)
unfolding and_read
gets_bind P Q none next h k = tt
gets_bind P Q (got a s) next h k = k a s h

pub gets_cond : {A : Type 0} (Q : A → List ℕ → Type 0) (b : Bool) (x y : Got A) → (b ≡ true → Gets Q x) → (b ≡ false → Gets Q y) → Gets Q (cond b x y)
gets_cond Q true x y h k = h refl
gets_cond Q false x y h k = k refl

pub gets_expect : {A : Type 0} (Q : A → List ℕ → Type 0) (w s : List ℕ) (next : List ℕ → Got A) → ((t : List ℕ) → s ≡ w ++ t → Gets Q (next t)) → Gets Q (expect w s next)
unfolding expect
gets_expect Q w s next k =
    gets_cond Q (starts w s) (next (drop (length w) s)) none (λ e. k (drop (length w) s) (starts_word w s e)) (λ e. tt)

pub gets_name : (s : List ℕ) → Gets (λ n t. (is_name n ≡ true) × (s ≡ n ++ t)) (read_name s)
unfolding read_name
gets_name s = gets_cond (λ n t. (is_name n ≡ true) × (s ≡ n ++ t)) (is_name (run letter s)) _ none (λ e. (e, run_past letter s)) (λ e. tt)

pub gets_numeral : (s : List ℕ) → Gets (λ d t. (is_numeral d ≡ true) × (s ≡ d ++ t)) (read_numeral s)
unfolding read_numeral
gets_numeral s = gets_cond (λ d t. (is_numeral d ≡ true) × (s ≡ d ++ t)) (is_numeral (run digit s)) _ none (λ e. (e, run_past digit s)) (λ e. tt)

pub gets_digit : (s : List ℕ) → Gets (λ k t. (digit k ≡ true) × (s ≡ k ∷ t)) (one_digit s)
unfolding one_digit
gets_digit [] = tt
gets_digit (c ∷ s) = gets_cond (λ k t. (digit k ≡ true) × (c ∷ s ≡ k ∷ t)) (digit c) (got c s) none (λ e. (e, refl)) (λ e. tt)
