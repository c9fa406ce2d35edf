-- Whether a bound or a formula names a wanted variable: at 01's "flag k at variable v", or in a bound of kind 2.
use Rattle.std.specs.Prelude.{ℕ, Bool, false, ◌||◌, eqb}
use Rattle.rule.specs.Formula.{Bound, origin, infinity, variable, Formula, flag, negate, then, beside, forall}

unfoldable pub bound_names : ℕ → Bound → Bool
bound_names wanted (origin n) = false
bound_names wanted infinity = false
bound_names wanted (variable named n) = eqb named wanted

-- At a flag, or in a bound of a quantifier inside.
unfoldable pub names : ℕ → Formula → Bool
names wanted (flag named k) = eqb named wanted
names wanted (negate F) = names wanted F
names wanted (then F G) = names wanted F || names wanted G
names wanted (beside F G) = names wanted F || names wanted G
names wanted (forall B₁ B₂ F) = bound_names wanted B₁ || (bound_names wanted B₂ || names wanted F)
