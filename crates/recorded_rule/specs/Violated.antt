-- The step of a violation, by the outcome; none for any other outcome.
use Rattle.std.specs.Prelude.{ℕ, Option, Some, None}
use Rattle.rule.specs.declared.Verdict.TheVariants.{True, False}
use Rattle.rule.specs.declared.Outcome.{Outcome}
use Rattle.rule.specs.declared.Outcome.TheVariants.{Decided, Open}

abbrev pub violated_at : Outcome → Option ℕ
violated_at (Decided True step) = None
violated_at (Decided False step) = Some step
violated_at Open = None
