-- Marks: a bit for each tick, tick 64w + i the bit worth 2^i of word w.
use Rattle.std.specs.Prelude.{ℕ, ◌/◌, ◌%◌, Bool, List, [], ◌∷◌, get_or, set}
use Rattle.rule.specs.Meaning.{up}
use Rattle.calendar.specs.Calendar.{with_bit}
use Rattle.complete_report.specs.declared.Violation.{Violation}

unfoldable pub is_marked : List ℕ → ℕ → Bool
is_marked marks tick = up (tick % 64) (get_or marks (tick / 64) 0)

-- A tick past the words is not kept.
unfoldable pub marked : List ℕ → ℕ → List ℕ
marked marks tick = set marks (tick / 64) (with_bit (tick % 64) (get_or marks (tick / 64) 0))

-- The ticks of a list marked one after another.
unfoldable pub all_marked : List ℕ → List Violation → List ℕ
all_marked marks [] = marks
all_marked marks (v ∷ list) = all_marked (marked marks v.tick) list
