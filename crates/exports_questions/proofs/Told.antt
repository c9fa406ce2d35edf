-- What C hears is none exactly where no tick is up: no kept tick has the number that stands for none.
use Prim.Native.Nat.{ℕ, ◌≤◌, ◌<◌}
use mathlib.Core.Path.{◌≡◌, refl, sym, ◌∙◌}
use mathlib.Core.Bool.{true, false≢true}
use mathlib.Core.List.{List}
use native.Mathlib.Omega.{arith}
use Rattle.std.specs.Prelude.{Option, Some, None}
use Rattle.calendar.specs.Calendar.{kept, up_at, first_up, last_up, nearest_up}
use Rattle.calendar.specs.Said.{Near, InRange, FirstUp, LastUp, NearestUp}
use Rattle.calendar.proofs.Said.{first_up_said, last_up_said, nearest_up_said}
use Rattle.exports_questions.specs.Ticks.{TellsNone, NoneTold}

module _ (words : List ℕ) (few : kept words ≤ 18446744073709551615) (k : ℕ) where
  -- One of these ticks, kept and up, was found.
  told_tick : (These : ℕ → Type 0) (p : ℕ) → p < kept words → These p → up_at words k p ≡ true → TellsNone words k These (Some p)
  told_tick These p there one_of_lem up_there = (λ e. absurd (omega (arith, there, few, e)), λ quiet. absurd (false≢true (sym (quiet p one_of_lem) ∙ up_there)))

  first_told : (first last : ℕ) → TellsNone words k (InRange words first last) (first_up words k first last)
  first_told first last = go (first_up words k first last) (first_up_said words k first last)
    where
      go : (found : Option ℕ) → FirstUp words k first last found → TellsNone words k (InRange words first last) found
      go (Some p) w = told_tick (InRange words first last) p w.0.2 w.0 w.1
      go None w = (λ e. w, λ quiet. refl)

  last_told : (first last : ℕ) → TellsNone words k (InRange words first last) (last_up words k first last)
  last_told first last = go (last_up words k first last) (last_up_said words k first last)
    where
      go : (found : Option ℕ) → LastUp words k first last found → TellsNone words k (InRange words first last) found
      go (Some p) w = told_tick (InRange words first last) p w.0.2 w.0 w.1
      go None w = (λ e. w, λ quiet. refl)

  nearest_told : (t : ℕ) → TellsNone words k (λ q. q < kept words) (nearest_up words k t)
  unfolding Near
  nearest_told t = go (nearest_up words k t) (nearest_up_said words k t)
    where
      go : (found : Option ℕ) → NearestUp words k t found → TellsNone words k (λ q. q < kept words) found
      go (Some p) w = told_tick (λ q. q < kept words) p w.0 w.0 w.1
      go None w = (λ e. w, λ quiet. refl)

pub none_told : (words : List ℕ) → kept words ≤ 18446744073709551615 → NoneTold words
none_told words few = record { first = first_told words few; last = last_told words few; nearest = nearest_told words few }
