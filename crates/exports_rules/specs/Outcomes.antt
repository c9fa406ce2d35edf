-- An outcome as C hears it: two lent numbers.
use Rattle.std.specs.Prelude.{ℕ}
use Rattle.rule.specs.declared.Verdict.TheVariants.{True, False}
use Rattle.rule.specs.declared.Outcome.{Outcome}
use Rattle.rule.specs.declared.Outcome.TheVariants.{Decided, Open}

-- 0 open, 1 true, 2 false.
abbrev pub verdict_number : Outcome → ℕ
verdict_number (Decided True step) = 1
verdict_number (Decided False step) = 2
verdict_number Open = 0

-- Its step; 0 where it is open.
abbrev pub step_number : Outcome → ℕ
step_number (Decided verdict step) = step
step_number Open = 0
