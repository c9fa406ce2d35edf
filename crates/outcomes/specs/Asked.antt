-- What a walk over outcomes asks of one: whether it is false, at whichever step, and how many it adds to those that are open.
use Rattle.std.specs.Prelude.{ℕ, Bool, true, false, cond}
use Rattle.rule.specs.declared.Verdict.TheVariants.{True, False}
use Rattle.rule.specs.declared.Outcome.{Outcome}
use Rattle.rule.specs.declared.Outcome.TheVariants.{Decided, Open}
use Rattle.rule.specs.Steps.{is_open}

unfoldable pub is_false : Outcome → Bool
is_false (Decided True step) = false
is_false (Decided False step) = true
is_false Open = false

unfoldable pub open_count : Outcome → ℕ
open_count outcome = cond (is_open outcome) 1 0
