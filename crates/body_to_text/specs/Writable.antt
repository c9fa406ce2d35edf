-- Which formulas have a text that can be written: every formula of a body that is accepted (proofs/Bodies.antt).
use Rattle.std.specs.Prelude.{◌≤◌, length}
use Rattle.rule.specs.Formula.{Formula, flag, negate, then, beside, forall}
use Rattle.notation.specs.Notation.{text}
use Rattle.notation.specs.Printing.{rule_named}

-- Each flag has one digit: it is at most 7.
unfoldable pub FlagsFit : Formula → Type 0
FlagsFit (flag variable k) = k ≤ 7
FlagsFit (negate F) = FlagsFit F
FlagsFit (then F G) = FlagsFit F × FlagsFit G
FlagsFit (beside F G) = FlagsFit F × FlagsFit G
FlagsFit (forall B₁ B₂ F) = FlagsFit F

-- The text is no longer than a text may be, 4,096 bytes.
pub record Writable (F : Formula) : Type 0 where
  pub flags : FlagsFit F
  pub short : length (text (rule_named F)) ≤ 4096
