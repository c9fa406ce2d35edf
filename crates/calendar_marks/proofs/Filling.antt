-- Bytes marked one after another from a tick on, until there is no byte left or the tick is not kept.
use mathlib.Core.Path.{◌≡◌, sym, ap, ◌∙◌}
use mathlib.Core.List.{List, [], ◌∷◌}
use Prim.Native.Nat.{ℕ, ◌+◌, ◌≤◌, ◌<◌}
use native.Mathlib.Numerals.{add-one}
use native.Mathlib.Omega.{arith}
use lib.ListN.{length}
use Rattle.calendar.specs.Calendar.{kept, each, marked_word, marked, filled}
use Rattle.calendar.proofs.Stream.{kept_marked, marked_kept, filled_past}

-- The words ws with the bytes `rest` still to come, at the ticks from t on, are ws₀ with all the bytes bs, at the ticks from t₀ on; `end` ticks are kept.
pub record Left (ws₀ : List ℕ) (t₀ : ℕ) (bs : List ℕ) (ws : List ℕ) (t end : ℕ) (rest : List ℕ) : Type 0 where
  pub stop : end ≡ kept ws
  pub left : filled ws t rest ≡ filled ws₀ t₀ bs

module _ (ws₀ : List ℕ) (t₀ : ℕ) (bs : List ℕ) (ws : List ℕ) (t end : ℕ) (rest : List ℕ) (w : Left ws₀ t₀ bs ws t end rest) where
  pub left_less : (vs : List ℕ) (b : ℕ) (later : List ℕ) (t' end' : ℕ) → t < end → rest ≡ b ∷ later → vs ≡ each (marked_word t b) 0 ws → t' ≡ t + 1 → end' ≡ end
      → Left ws₀ t₀ bs vs t' end' later
  unfolding filled
  left_less vs b later t' end' h r e s f =
      let m : vs ≡ marked ws t b = e ∙ sym (marked_kept ws t b (omega (arith, w.stop))) in
      record {
        stop = f ∙ w.stop ∙ sym (ap kept m ∙ kept_marked ws t b);
        left = ap (λ (v : List ℕ). filled v t' later) m
            ∙ ap (λ (x : ℕ). filled (marked ws t b) x later) (s ∙ add-one t)
            ∙ sym (ap (filled ws t) r) ∙ w.left;
      }

  -- no byte is left
  pub no_byte : length rest ≡ 0 → ws ≡ filled ws₀ t₀ bs
  unfolding filled
  no_byte l = go rest l w.left
    where
      go : (xs : List ℕ) → length xs ≡ 0 → filled ws t xs ≡ filled ws₀ t₀ bs → ws ≡ filled ws₀ t₀ bs
      go [] l e = e
      go (x ∷ xs) l e = absurd (omega arith)

  -- the tick is past the kept ones
  pub no_tick : end ≤ t → ws ≡ filled ws₀ t₀ bs
  no_tick h = sym (filled_past ws t rest (omega (arith, w.stop))) ∙ w.left
