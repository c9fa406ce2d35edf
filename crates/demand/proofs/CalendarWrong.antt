-- What the claim about a calendar does not allow, by computation: one run of words, and the stream of one byte with flag 0 up.
use mathlib.Core.Path.{sym}
use mathlib.Core.Bool.{false≢true}
use mathlib.Core.List.{List, [], ◌∷◌}
use Prim.Native.Nat.{ℕ}
use native.Mathlib.Omega.{arith}
use Rattle.rule.specs.Meaning.{up}
use Rattle.calendar.specs.Calendar.{kept, run_word, up_at}
use Rattle.demand.specs.CalendarDemand.{Agrees}

-- A run in which only flag 0's word is not 0.
abbrev run : ℕ → List ℕ
run word = word ∷ 0 ∷ 0 ∷ 0 ∷ 0 ∷ 0 ∷ 0 ∷ 0 ∷ []

-- Words in which the tick that was taken is not marked.
pub unmarked : Agrees (run 0) (1 ∷ []) (run 0) 1 → ⊥
unfolding up_at run_word kept up
unmarked a = false≢true (a.taken_ticks 0 0 (omega arith) (omega arith) (omega arith))

-- Words in which it is marked one tick late.
pub late : Agrees (run 0) (1 ∷ []) (run 2) 1 → ⊥
unfolding up_at run_word kept up
late a = false≢true (a.taken_ticks 0 0 (omega arith) (omega arith) (omega arith))

-- Words that were not zeroed.
pub not_zeroed : Agrees (run 1) [] (run 1) 0 → ⊥
unfolding up_at run_word kept up
not_zeroed a = false≢true (sym (a.other_ticks 0 0 (omega arith) (omega arith) (omega arith)))
