-- The violations of a recording by tick: the step of each as a number, where the recording's length, which is no step of it, says that the tick is no violation.
use Rattle.std.specs.Prelude.{ℕ, zero, suc, cond, List, [], ◌∷◌, ltb, length, Option, Some, None}
use Rattle.refusal.specs.Answer.{Answer, refused, accepted}
use Rattle.rule.specs.declared.Verdict.TheVariants.{True, False}
use Rattle.rule.specs.declared.Outcome.{Outcome}
use Rattle.rule.specs.declared.Outcome.TheVariants.{Decided, Open}
use Rattle.rule.specs.Formula.{Formula}
use Rattle.rule.specs.Recording.{over_recording}
use Rattle.complete_report.specs.declared.Violation.{Violation}
use Rattle.complete_report.specs.Report.{violation}

abbrev pub step_if_false : ℕ → Outcome → ℕ
step_if_false none (Decided True step) = none
step_if_false none (Decided False step) = step
step_if_false none Open = none

abbrev pub answered_step : ℕ → Answer Outcome → ℕ
answered_step none (refused number) = none
answered_step none (accepted outcome) = step_if_false none outcome

unfoldable pub false_step : Formula → List ℕ → ℕ → ℕ
false_step F rec tick = answered_step (length rec) (over_recording F rec tick)

-- Of `count` ticks from p on, those whose step is below `end`, tick by tick.
unfoldable pub by_tick : (ℕ → ℕ) → ℕ → ℕ → ℕ → List Violation
by_tick steps end zero p = []
by_tick steps end (suc count) p = cond (ltb (steps p) end) (violation (steps p) p ∷ by_tick steps end count (suc p)) (by_tick steps end count (suc p))

-- A step as code has it: none where it is not below `end`.
abbrev pub step_below : ℕ → ℕ → Option ℕ
step_below end step = cond (ltb step end) (Some step) None
