-- What is found at a position of a text, one thing after another.
use Prim.Native.Nat.{ℕ, ◌+◌, ◌≤◌}
use mathlib.Core.Path.{◌≡◌, refl, ap}
use mathlib.Core.Bool.{Bool, true, false}
use mathlib.Core.List.{List}
use native.Mathlib.Omega.{arith}
use lib.ListN.{length, drop, length-drop, length-append}
use lib.Seq.{drop-drop}
use Rattle.std.specs.Prelude.{Option, Some, None}
use Rattle.notation.specs.Reading.{Got, none, got, and_read, starts, expect}
use Rattle.text_pieces.specs.Spots.{Found, word_read}
use Rattle.notation.proofs.Spelling.{starts_word}

module _ {A : Type 0} (s : List ℕ) (x : Got A) where
  pub found_some : (q : ℕ) → Found s (Some q) x → (a : A) × (x ≡ got a (drop q s)) × (q ≤ length s)
  found_some q h = go x h
    where
      go : (x : Got A) → Found s (Some q) x → (a : A) × (x ≡ got a (drop q s)) × (q ≤ length s)
      go none h = absurd h
      go (got a t) h = (a, ap (got a) h.2, h.1)

  pub found_none : Found s None x → x ≡ none
  found_none h = go x h
    where
      go : (x : Got A) → Found s None x → x ≡ none
      go none h = refl
      go (got a t) h = absurd h

  module _ {B : Type 0} (next : A → List ℕ → Got B) where
    pub found_stop : Found s None x → Found s None (and_read x next)
    unfolding and_read
    found_stop h = rw (found_none h) tt

    pub found_through : (q : ℕ) (r : Option ℕ) → Found s (Some q) x → ((a : A) → Found s r (next a (drop q s))) → Found s r (and_read x next)
    unfolding and_read
    found_through q r h k = let f = found_some q h in rw f.1 (k f.0)

  -- The same place, another value.
  pub found_as : {B : Type 0} (make : A → B) (q : Option ℕ) → Found s q x → Found s q (and_read x (λ a t. got (make a) t))
  unfolding and_read
  found_as {B} make q h = go x q h
    where
      go : (x : Got A) (q : Option ℕ) → Found s q x → Found s q (and_read x (λ a t. got (make a) t))
      go none q h = as_none q h
        where
          as_none : (q : Option ℕ) → Found {A = A} s q none → Found {A = B} s q none
          as_none None h = h
          as_none (Some q) h = h
      go (got a t) q h = as_got q h
        where
          as_got : (q : Option ℕ) → Found s q (got a t) → Found s q (got (make a) t)
          as_got None h = h
          as_got (Some q) h = h

-- A word that is not empty stands within the text.
pub word_fits : (s w : List ℕ) (q : ℕ) → 1 ≤ length w → starts w (drop q s) ≡ true → q + length w ≤ length s
word_fits s w q h e =
    omega (arith, ap length (starts_word w (drop q s) e), length-append w (drop (length w) (drop q s)), length-drop q s)

-- A fixed word at a position.
module _ (s w : List ℕ) (q : ℕ) where
  pub word_there : 1 ≤ length w → starts w (drop q s) ≡ true → Found s (Some (q + length w)) (word_read w (drop q s))
  unfolding expect
  word_there h e = rw (e, drop-drop (length w) q s) (omega arith, word_fits s w q h e, refl)

  pub word_none : starts w (drop q s) ≡ false → Found s None (word_read w (drop q s))
  unfolding expect
  word_none e = rw e tt

  -- The word stands there.
  pub word_starts : (r : ℕ) → Found s (Some r) (word_read w (drop q s)) → starts w (drop q s) ≡ true
  unfolding expect
  word_starts r h = go (starts w (drop q s)) refl
    where
      go : (b : Bool) → starts w (drop q s) ≡ b → starts w (drop q s) ≡ true
      go true e = e
      go false e = absurd (rw e at h)

  pub word_missing : Found s None (word_read w (drop q s)) → starts w (drop q s) ≡ false
  unfolding expect
  word_missing h = go (starts w (drop q s)) refl
    where
      go : (b : Bool) → starts w (drop q s) ≡ b → starts w (drop q s) ≡ false
      go false e = e
      go true e = absurd (rw e at h)

  -- The text after the word.
  pub word_after : (r : ℕ) → Found s (Some r) (word_read w (drop q s)) → drop (length w) (drop q s) ≡ drop r s
  unfolding expect
  word_after r h = (rw (word_starts r h) at h).2

  pub word_within : (r : ℕ) → Found s (Some r) (word_read w (drop q s)) → (1 ≤ r) × (r ≤ length s) × (drop r s ≡ drop r s)
  unfolding expect
  word_within r h = let g = rw (word_starts r h) at h in (g.0, g.1, refl)

  pub word_length : (r : ℕ) → 1 ≤ length w → Found s (Some r) (word_read w (drop q s)) → r ≡ q + length w
  word_length r k h =
      let n = word_within r h in
      omega (arith, word_fits s w q k (word_starts r h), n.0, n.1, ap length (word_after r h), length-drop (length w) (drop q s), length-drop q s, length-drop r s)

module _ {A : Type 0} (s w : List ℕ) (q : ℕ) (next : List ℕ → Got A) where
  pub found_word : (p : ℕ) (r : Option ℕ) → Found s (Some p) (word_read w (drop q s)) → Found s r (next (drop p s)) → Found s r (expect w (drop q s) next)
  unfolding expect
  found_word p r h k = rw (word_starts s w q p h, word_after s w q p h) k

  pub found_miss : Found s None (word_read w (drop q s)) → Found s None (expect w (drop q s) next)
  unfolding expect
  found_miss h = rw (word_missing s w q h) tt

-- Nothing is read after the word.
pub found_last : {A : Type 0} (s w : List ℕ) (q : ℕ) (x : A) (r : Option ℕ) → Found s r (word_read w (drop q s)) → Found s r (expect w (drop q s) (λ t. got x t))
found_last s w q x (Some p) h = found_word s w q (got x) p (Some p) h (word_within s w q p h)
found_last s w q x None h = found_miss s w q (got x) h
