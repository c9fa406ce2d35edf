-- A comparison as C hears it: four lent numbers.
use Rattle.std.specs.Prelude.{ℕ}
use Rattle.complete_report.specs.declared.Comparison.{Comparison}
use Rattle.complete_report.specs.declared.Comparison.TheVariants.{Same, Differs, Ends}

-- 0 the same, 1 a violation stands there in the complete report, 2 the complete report has ended.
abbrev pub comparison_number : Comparison → ℕ
comparison_number Same = 0
comparison_number (Differs entry violation) = 1
comparison_number (Ends entry) = 2

-- The first entry that differs, counted from 0, or how many there are where the complete report has ended; 0 where the two are the same.
abbrev pub entry_number : Comparison → ℕ
entry_number Same = 0
entry_number (Differs entry violation) = entry
entry_number (Ends entry) = entry

-- The tick of the violation that stands there, and its step; 0 where there is none.
abbrev pub tick_number : Comparison → ℕ
tick_number Same = 0
tick_number (Differs entry violation) = violation.tick
tick_number (Ends entry) = 0

abbrev pub step_number : Comparison → ℕ
step_number Same = 0
step_number (Differs entry violation) = violation.step
step_number (Ends entry) = 0
