-- How the answer to a question about ticks crosses to C: the tick, or 2^64 - 1 (SW_NO_TICK) for none.
use Rattle.std.specs.Prelude.{ℕ, ◌<◌, ◌≡◌, ◌↔◌, false, List, Option, Some, None}
use Rattle.calendar.specs.Calendar.{kept, up_at, first_up, last_up, nearest_up}
use Rattle.calendar.specs.Said.{InRange}

abbrev pub tick_number : Option ℕ → ℕ
tick_number (Some q) = q
tick_number None = 18446744073709551615

-- "None" is told exactly where flag k is up at none of these ticks.
abbrev pub TellsNone : List ℕ → ℕ → (ℕ → Type 0) → Option ℕ → Type 0
TellsNone words k These found = (tick_number found ≡ 18446744073709551615) ↔ ((q : ℕ) → These q → up_at words k q ≡ false)

-- So it is of each question, for words that keep fewer than 2^64 ticks: 2^60 words, more than can be lent, keep 2^63.
pub record NoneTold (words : List ℕ) : Type 0 where
  pub first : (k first last : ℕ) → TellsNone words k (InRange words first last) (first_up words k first last)
  pub last : (k first last : ℕ) → TellsNone words k (InRange words first last) (last_up words k first last)
  pub nearest : (k t : ℕ) → TellsNone words k (λ q. q < kept words) (nearest_up words k t)
