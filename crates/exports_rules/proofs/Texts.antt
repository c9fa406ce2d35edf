-- A sentence in a lent buffer.
use Prim.Native.Nat.{ℕ, suc, ◌<◌, ◌≤◌}
use mathlib.Core.Path.{◌≡◌, sym, ap, ◌∙◌}
use mathlib.Core.List.{List, ◌∷◌, ◌++◌}
use native.Mathlib.Numerals.{add-one}
use lib.ListN.{length, drop, set, get_or}
use lib.Seq.{drop-cons, set-append_seam}
use borrow.Author.Tests.{lt-ltb, le-ltb}
use Rattle.refusal.specs.Answer.{refused, accepted}
use Rattle.refusal_text.specs.Sentences.{sentence_of}
use Rattle.exports_rules.specs.Sentences.{sentence_length, with_sentence}

module _ (n : ℕ) (s out : List ℕ) (is : s ≡ sentence_of n) where
  -- The buffer is too short.
  pub no_room : length out ≤ length s → (sentence_length n (length out) ≡ refused 22) × (with_sentence n out ≡ out)
  unfolding sentence_length with_sentence
  no_room h = rw (← is) (simp (le-ltb (length s) (length out) h), simp (le-ltb (length s) (length out) h))

  module _ (room : length s < length out) where
    pub there : sentence_length n (length out) ≡ accepted (length s)
    unfolding sentence_length
    there = rw (← is) (simp (lt-ltb (length s) (length out) room))

    pub put_there : (copied : List ℕ) → copied ≡ s → set (copied ++ drop (length s) out) (length s) 0 ≡ with_sentence n out
    unfolding with_sentence
    put_there copied e =
        rw (← is, lt-ltb (length s) (length out) room)
        (ap (λ (l : List ℕ). set (l ++ drop (length s) out) (length s) 0) e
        ∙ ap (λ (l : List ℕ). set (s ++ l) (length s) 0) (drop-cons out (length s) 0 room)
        ∙ set-append_seam s (get_or out (length s) 0) (drop (suc (length s)) out) 0
        ∙ ap (λ (k : ℕ). s ++ (0 ∷ drop k out)) (sym (add-one (length s))))
