-- Nots turn an outcome where they are odd in number.
use mathlib.Core.Path.{◌≡◌, refl, sym, ap, ◌∙◌}
use mathlib.Core.Bool.{Bool, true, false, cond, not}
use Rattle.rule.specs.declared.Outcome.{Outcome}
use Rattle.rule.specs.declared.Outcome.TheVariants.{Decided, Open}
use Rattle.rule.specs.declared.Verdict.TheVariants.{True, False}
use Rattle.rule.specs.Meaning.{opposite}

pub twice : (o : Outcome) → opposite (opposite o) ≡ o
unfolding opposite
twice (Decided True d) = refl
twice (Decided False d) = refl
twice Open = refl

-- An outcome r above nots that are odd in number or not, seen from one not further down; and from under all of them.
pub one_more : (odd : Bool) (r : Outcome) → cond odd (opposite r) r ≡ opposite (cond (not odd) (opposite r) r)
one_more true r = refl
one_more false r = sym (twice r)

pub turned_back : (odd : Bool) (o r : Outcome) → r ≡ cond odd (opposite o) o → o ≡ cond odd (opposite r) r
turned_back true o r e = sym (ap opposite e ∙ twice o)
turned_back false o r e = sym e
