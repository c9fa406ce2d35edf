-- A violation as code has it: none where its step is not below `end`; the one of two that comes first, of those that are there; and the comparison by it.
use Rattle.std.specs.Prelude.{ℕ, cond, ltb, List, length, take, Option, Some, None}
use Rattle.complete_report.specs.declared.Violation.{Violation}
use Rattle.complete_report.specs.declared.Comparison.{Comparison}
use Rattle.complete_report.specs.declared.Comparison.TheVariants.{Same, Differs, Ends}
use Rattle.complete_report.specs.Order.{before}
use Rattle.report_check.specs.Checking.{place}

abbrev pub some_below : ℕ → Violation → Option Violation
some_below end v = cond (ltb v.step end) (Some v) None

abbrev pub earlier_of : Option Violation → Option Violation → Option Violation
earlier_of None second = second
earlier_of (Some one) None = Some one
earlier_of (Some one) (Some other) = cond (before one other) (Some one) (Some other)

-- A list of which `count` first entries are in the report, beside the first violation that these lack.
abbrev pub beside : List Violation → ℕ → Option Violation → Comparison
beside claimed count (Some missing) = Differs (place missing (take count claimed)) missing
beside claimed count None = cond (ltb count (length claimed)) (Ends count) Same
