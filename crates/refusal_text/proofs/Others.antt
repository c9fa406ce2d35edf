-- The numbers that are no refusal's. Assumes nothing.
use Prim.Native.Nat.{ℕ, zero, suc, ◌≤◌, ◌<◌}
use mathlib.Core.Path.{◌≡◌, refl, sym, ap}
use mathlib.Core.Logic.{◌⊎◌, inl, inr}
use native.Mathlib.Omega.{arith}
use lib.ListN.{get_or-eq_default}
use Rattle.std.proofs.lemmas.Bool.{cases_lt}
use Rattle.refusal_text.specs.Sentences.{sentence_of, ascii, sentences, unknown}

-- They have the sentence of 0.
pub other : (n : ℕ) → ((k : ℕ) → 1 ≤ k → k ≤ 27 → n ≡ k → ⊥) → sentence_of 0 ≡ sentence_of n
unfolding sentence_of
other zero none = refl
other (suc n) none = go (cases_lt (suc n) 28)
  where
    go : (suc n < 28) ⊎ (28 ≤ suc n) → sentence_of 0 ≡ sentence_of (suc n)
    go (inl i) = absurd (none (suc n) (omega arith) (omega arith) refl)
    go (inr i) = sym (ap ascii (get_or-eq_default sentences unknown {n = suc n} i))
