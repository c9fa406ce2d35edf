-- Runs, words and digits at a position of a text, one byte at a time.
use Prim.Native.Nat.{ℕ, suc, ◌+◌, ◌-◌, ◌≤◌, ◌<◌}
use mathlib.Core.Path.{◌≡◌, refl, ap, sym, ◌∙◌}
use mathlib.Core.Bool.{Bool, true, false, cond, ◌&&◌}
use mathlib.Core.List.{List, [], ◌∷◌, ◌++◌}
use native.Mathlib.Omega.{arith}
use native.Mathlib.Numerals.{add-one}
use lib.Dec.{eqb}
use lib.ListN.{length, take, drop, get_or, drop_of_length-le, length-drop, length-append}
use lib.Seq.{drop-cons, drop_at, drop-drop}
use borrow.Author.Tests.{ne_eqb, eq-eqb}
use Rattle.notation.specs.Notation.{letter, digit, all, same}
use Rattle.notation.specs.Reading.{starts, run, past, one_digit}
use Rattle.std.specs.Prelude.{None, nat_eq, slice_range}
use Rattle.std.specs.Bool.{then_some}
use Rattle.std.specs.List.{prefix_len, starts_with, take_while}
use Rattle.std.proofs.lemmas.List.{take_all}
use Rattle.std.proofs.lemmas.List.Folds.{length-prefix_len}
use Rattle.std.proofs.lemmas.Bool.{eqb-true, eqb-false}
use Rattle.text_pieces.specs.Spots.{Found}
use Rattle.notation.proofs.Spelling.{run_past}

module _ (p : ℕ → Bool) (s : List ℕ) (i : ℕ) where
  pub run_on : i < length s → p (get_or s i 0) ≡ true → length (run p (drop i s)) ≡ suc (length (run p (drop (suc i) s)))
  unfolding run
  run_on h e = rw (drop-cons s i 0 h, e)

  pub run_stop : i < length s → p (get_or s i 0) ≡ false → run p (drop i s) ≡ []
  unfolding run
  run_stop h e = rw (drop-cons s i 0 h, e)

  pub run_none : length s ≤ i → run p (drop i s) ≡ []
  unfolding run
  run_none h = rw (drop_of_length-le s {i = i} h)

  -- A run that ends before e.
  pub run_fits : length (run p (drop i s)) ≤ length s - i
  run_fits = omega (arith, ap length (run_past p (drop i s)), length-append (run p (drop i s)) (past p (drop i s)), length-drop i s)

  pub run_rest : (e : ℕ) → e ≡ i + length (run p (drop i s)) → past p (drop i s) ≡ drop e s
  run_rest e h =
      sym (drop_at (run p (drop i s)) (past p (drop i s)) (length (run p (drop i s))) refl)
      ∙ ap (drop (length (run p (drop i s)))) (sym (run_past p (drop i s)))
      ∙ drop-drop (length (run p (drop i s))) i s
      ∙ ap (λ (n : ℕ). drop n s) (sym h)

-- How long a run is, as the chain of iterators counts it.
pub run_counts : (p : ℕ → Bool) (s : List ℕ) → length (take (prefix_len p s) s) ≡ length (run p s)
unfolding run
run_counts p s = length-prefix_len p s ∙ counted s
  where
    counted : (s : List ℕ) → prefix_len p s ≡ length (run p s)
    counted [] = refl
    counted (c ∷ s) = go (p c) (counted s)
      where
        go : (b : Bool) → prefix_len p s ≡ length (run p s) → cond b (1 + prefix_len p s) 0 ≡ length (cond b (c ∷ run p s) [])
        go true e = omega arith
        go false e = refl

-- The run at a position is that of the text's rest, and there is none past the end.
pub leading_there : (p : ℕ → Bool) (s t : List ℕ) (i n : ℕ) → t ≡ slice_range s i (length s) → n ≡ length (take_while p t) → n ≡ length (take_while p (drop i s))
leading_there p s t i n e f =
    f ∙ ap (λ (x : List ℕ). length (take_while p x)) (e ∙ take_all (length s - i) (drop i s) (omega (arith, length-drop i s)))

pub leading_past : (p : ℕ → Bool) (s : List ℕ) (i : ℕ) → length s < i → 0 ≡ length (take_while p (drop i s))
leading_past p s i h = rw (drop_of_length-le s {i = i} (omega arith))

-- ---- words

-- A test of two numbers is one of them the other way round.
same_way : (a b : ℕ) → eqb a b ≡ eqb b a
same_way a b = go (eqb a b) refl
  where
    go : (t : Bool) → eqb a b ≡ t → eqb a b ≡ eqb b a
    go true e = e ∙ sym (eq-eqb b a (sym (eqb-true a b e)))
    go false e = e ∙ sym (ne_eqb b a (λ q. eqb-false a b e (sym q)))

starts_with_of : (w s : List ℕ) → starts_with nat_eq s w ≡ starts w s
unfolding starts
starts_with_of [] s = refl
starts_with_of (w ∷ ws) [] = refl
starts_with_of (w ∷ ws) (c ∷ s) = ap (λ (b : Bool). nat_eq w c && b) (starts_with_of ws s) ∙ ap (λ (b : Bool). b && starts ws s) (same_way w c)

pub starts_rest : (w s t : List ℕ) (i : ℕ) (b : Bool) → t ≡ slice_range s i (length s) → b ≡ starts_with nat_eq t w → b ≡ starts w (drop i s)
starts_rest w s t i b e f =
    let m : t ≡ drop i s = e ∙ take_all (length s - i) (drop i s) (omega (arith, length-drop i s)) in
    f ∙ starts_with_of w t ∙ ap (starts w) m

pub starts_past : (w s : List ℕ) (i : ℕ) → length s ≤ i → starts w (drop i s) ≡ eqb (length w) 0
unfolding starts
starts_past [] s i h = refl
starts_past (w ∷ ws) s i h = rw (drop_of_length-le s {i = i} h, ne_eqb (suc (length ws)) 0 (λ e. omega (arith, e)))

-- A run of letters is a word where it is as long and the text starts with the word.
pub same_word : (x t w : List ℕ) → length x ≡ length w → starts w (x ++ t) ≡ same x w
unfolding starts same
same_word [] t [] h = refl
same_word [] t (w ∷ ws) h = absurd (omega arith)
same_word (c ∷ x) t [] h = absurd (omega arith)
same_word (c ∷ x) t (w ∷ ws) h = ap (λ (b : Bool). eqb c w && b) (same_word x t ws (omega arith))

pub other_length : (x w : List ℕ) → (length x ≡ length w → ⊥) → same x w ≡ false
unfolding same
other_length [] [] h = absurd (h refl)
other_length [] (w ∷ ws) h = refl
other_length (c ∷ x) [] h = refl
other_length (c ∷ x) (w ∷ ws) h = go (eqb c w) (other_length x ws (λ e. h (ap suc e)))
  where
    go : (b : Bool) → same x ws ≡ false → (b && same x ws) ≡ false
    go true e = e
    go false e = refl

pub run_all : (p : ℕ → Bool) (s : List ℕ) → all p (run p s) ≡ true
unfolding all run
run_all p [] = refl
run_all p (c ∷ s) = go (p c) refl (run_all p s)
  where
    go : (b : Bool) → p c ≡ b → all p (run p s) ≡ true → all p (cond b (c ∷ run p s) []) ≡ true
    go true e h = rw (e, h)
    go false e h = refl

-- ---- a digit

module _ (s : List ℕ) (i : ℕ) where
  pub digit_none : length s ≤ i → Found s None (one_digit (drop i s))
  unfolding one_digit
  digit_none h = rw (drop_of_length-le s {i = i} h) tt

  pub digit_found : (b : Bool) → i < length s → b ≡ digit (get_or s i 0) → Found s (then_some b (i + 1)) (one_digit (drop i s))
  unfolding one_digit
  digit_found true h e = rw (drop-cons s i 0 h, sym e, add-one) (omega arith, omega arith, refl)
  digit_found false h e = rw (drop-cons s i 0 h, sym e) tt

pub word_run : (s w : List ℕ) → length (run letter s) ≡ length w → starts w s ≡ same (run letter s) w
word_run s w e = ap (starts w) (run_past letter s) ∙ same_word (run letter s) (past letter s) w e
