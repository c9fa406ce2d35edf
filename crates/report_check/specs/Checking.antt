-- How the check finds the first entry that differs. The violations are given by tick: `steps` has the step of each, `end` or more where a tick is none. The first
-- entries of the list that ascend and are violations stand in the report too, with nothing but violations between them that the list lacks; the first of
-- those, in the order of the report, is where the list differs. Where there is none, the report is these entries.
use Rattle.std.specs.Prelude.{ℕ, zero, suc, Bool, true, false, cond, ◌||◌, List, [], ◌∷◌, leb, ltb, eqb, length, get_or, take}
use Rattle.complete_report.specs.declared.Violation.{Violation}
use Rattle.complete_report.specs.declared.Comparison.{Comparison}
use Rattle.complete_report.specs.declared.Comparison.TheVariants.{Same, Differs, Ends}
use Rattle.complete_report.specs.Report.{violation}
use Rattle.complete_report.specs.Lists.{none_lent}
use Rattle.complete_report.specs.Order.{before}

-- ---- the first entries of the list

unfoldable pub is_violation : (ℕ → ℕ) → ℕ → Violation → Bool
is_violation steps end v = cond (leb end v.step) false (eqb (steps v.tick) v.step)

-- Whether an entry comes after the one before its place.
unfoldable pub above_at : List Violation → ℕ → (Violation → Bool)
above_at claimed zero = λ v. true
above_at claimed (suc index) = before (get_or claimed index none_lent)

-- How many of the first entries ascend, the first as `above` asks, and are violations.
unfoldable pub agreed : (ℕ → ℕ) → ℕ → (Violation → Bool) → List Violation → ℕ
agreed steps end above [] = 0
agreed steps end above (c ∷ claimed) = cond (above c) (cond (is_violation steps end c) (suc (agreed steps end (before c) claimed)) 0) 0

-- Whether an entry has this tick.
unfoldable pub names : List Violation → ℕ → Bool
names [] tick = false
names (c ∷ claimed) tick = eqb c.tick tick || names claimed tick

-- ---- the first violation that they lack

unfoldable pub earlier : Violation → Violation → Violation
earlier v w = cond (before v w) v w

-- The violation of a tick that was not met; `end` is the step of one that was.
unfoldable pub missing_at : (ℕ → ℕ) → ℕ → (ℕ → Bool) → ℕ → Violation
missing_at steps end met tick = violation (cond (met tick) end (steps tick)) tick

-- The first of those of the ticks below `count`, and `first`.
unfoldable pub first_missing : (ℕ → ℕ) → ℕ → (ℕ → Bool) → ℕ → Violation → Violation
first_missing steps end met zero first = first
first_missing steps end met (suc count) first = first_missing steps end met count (earlier (missing_at steps end met count) first)

-- ---- the comparison

-- How many of the first entries come before a violation.
unfoldable pub place : Violation → List Violation → ℕ
place v [] = 0
place v (c ∷ claimed) = cond (before c v) (suc (place v claimed)) 0

unfoldable pub comparison : ℕ → List Violation → ℕ → Violation → Comparison
comparison end claimed count missing =
    cond (ltb missing.step end) (Differs (place missing (take count claimed)) missing) (cond (ltb count (length claimed)) (Ends count) Same)
