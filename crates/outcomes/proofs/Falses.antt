-- An outcome that is false is so at a step.
use Prim.Native.Nat.{ℕ}
use mathlib.Core.Path.{◌≡◌, refl}
use mathlib.Core.Bool.{true, false≢true}
use Rattle.rule.specs.declared.Verdict.TheVariants.{True, False}
use Rattle.rule.specs.declared.Outcome.{Outcome}
use Rattle.rule.specs.declared.Outcome.TheVariants.{Decided, Open}
use Rattle.outcomes.specs.Asked.{is_false}

pub false_step : (o : Outcome) → is_false o ≡ true → (step : ℕ) × (o ≡ Decided False step)
unfolding is_false
false_step (Decided True d) e = absurd (false≢true e)
false_step (Decided False d) e = (d, refl)
false_step Open e = absurd (false≢true e)
