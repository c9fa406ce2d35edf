-- The answers over words that were cleared and took the bytes of the ticks 0, 1, .. are those over the bytes themselves.
use mathlib.Core.Path.{◌≡◌, refl, ap, ap₂, ◌∙◌}
use mathlib.Core.Bool.{Bool, cond}
use mathlib.Core.List.{List}
use Prim.Native.Nat.{ℕ, zero, suc, ◌+◌, ◌-◌, ◌<◌, min}
use native.Mathlib.Omega.{arith}
use Rattle.calendar.specs.Search.{tally, earliest, latest, nearer, nearest}
use Rattle.std.specs.Prelude.{Option, Some, None}
use Rattle.calendar.specs.Calendar.{kept, up_at, flag_up, span, ups, first_up, last_up, nearest_up, cleared, filled}
use Rattle.calendar.proofs.Counting.{Same, next, tally_same}
use Rattle.calendar.proofs.Stream.{agrees, kept_filled, kept_cleared}

-- ---- what is up at the same ticks is found alike

earliest_same : (f g : ℕ → Bool) (a n : ℕ) → Same f g a n → earliest f a n ≡ earliest g a n
unfolding earliest
earliest_same f g a zero s = refl
earliest_same f g a (suc n) s =
    ap₂ (λ (x : Bool) (y : Option ℕ). cond x (Some a) y) (s a (omega arith) (omega arith)) (earliest_same f g (suc a) n (next f g a n s))

latest_same : (f g : ℕ → Bool) (a n : ℕ) → Same f g a n → latest f a n ≡ latest g a n
unfolding latest
latest_same f g a zero s = refl
latest_same f g a (suc n) s =
    ap₂ (λ (x : Bool) (y : Option ℕ). cond x (Some (a + n)) y) (s (a + n) (omega arith) (omega arith)) (latest_same f g a n (λ q l m. s q l (omega arith)))

nearest_same : (f g : ℕ → Bool) (t n : ℕ) → Same f g 0 n → nearest f t n ≡ nearest g t n
unfolding nearest
nearest_same f g t zero s = refl
nearest_same f g t (suc n) s =
    ap₂ (λ (x : Option ℕ) (y : Bool). nearer t x (cond y (Some n) None)) (nearest_same f g t n (λ q l m. s q l (omega arith))) (s n (omega arith) (omega arith))

-- ---- the four questions

module _ (ws bs : List ℕ) (k : ℕ) (l : k < 8) where
  abbrev after : List ℕ
  after = filled (cleared ws) 0 bs

  kept_after : kept after ≡ kept ws
  kept_after = kept_filled (cleared ws) 0 bs ∙ kept_cleared ws

  span_after : (first last : ℕ) → span (kept after) first last ≡ span (kept ws) first last
  unfolding span
  span_after first last = ap (λ (n : ℕ). min (suc last) n - first) kept_after

  in_range : (first last : ℕ) → Same (up_at after k) (flag_up bs k) first (span (kept ws) first last)
  unfolding span
  in_range first last q i m = agrees ws bs k q l (omega arith)

  pub ups_agrees : (first last : ℕ) → ups after k first last ≡ tally (flag_up bs k) first (span (kept ws) first last)
  unfolding ups
  ups_agrees first last = ap (tally (up_at after k) first) (span_after first last) ∙ tally_same (up_at after k) (flag_up bs k) first (span (kept ws) first last) (in_range first last)

  pub first_agrees : (first last : ℕ) → first_up after k first last ≡ earliest (flag_up bs k) first (span (kept ws) first last)
  unfolding first_up
  first_agrees first last =
      ap (earliest (up_at after k) first) (span_after first last) ∙ earliest_same (up_at after k) (flag_up bs k) first (span (kept ws) first last) (in_range first last)

  pub last_agrees : (first last : ℕ) → last_up after k first last ≡ latest (flag_up bs k) first (span (kept ws) first last)
  unfolding last_up
  last_agrees first last =
      ap (latest (up_at after k) first) (span_after first last) ∙ latest_same (up_at after k) (flag_up bs k) first (span (kept ws) first last) (in_range first last)

  pub nearest_agrees : (t : ℕ) → nearest_up after k t ≡ nearest (flag_up bs k) t (kept ws)
  unfolding nearest_up
  nearest_agrees t =
      ap (nearest (up_at after k) t) kept_after ∙ nearest_same (up_at after k) (flag_up bs k) t (kept ws) (λ q i m. agrees ws bs k q l (omega arith))
