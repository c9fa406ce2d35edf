-- Violations in lists: which are the same, and those that lent words hold, two words to a violation, tick and step.
use Rattle.std.specs.Prelude.{ℕ, Bool, false, ◌&&◌, ◌||◌, List, [], ◌∷◌, map, eqb, get_or}
use Rattle.complete_report.specs.declared.Violation.{Violation}

unfoldable pub same : Violation → Violation → Bool
same v w = eqb v.tick w.tick && eqb v.step w.step

unfoldable pub listed : Violation → List Violation → Bool
listed v [] = false
listed v (w ∷ list) = same v w || listed v list

abbrev pub violation_in : List ℕ → Violation
violation_in words = record { tick = get_or words 0 0; step = get_or words 1 0 }

-- The words that a violation is stored as.
abbrev pub words_of : Violation → List ℕ
words_of v = v.tick ∷ v.step ∷ []

abbrev pub violations_in : List (List ℕ) → List Violation
violations_in list = map violation_in list

-- What is read past the end of a list.
abbrev pub none_lent : Violation
none_lent = record { tick = 0; step = 0 }
