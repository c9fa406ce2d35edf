-- Ranges that are always empty (document 02, point 6), beside the marked cases: which ranges are, what may stand in their bodies, and what the rule
-- around them needs. proofs/Cases.antt proves them.
use Rattle.std.specs.Prelude.{ℕ, ◌≡◌, [], ◌∷◌, ◌++◌, pos, negsuc}
use Rattle.refusal.specs.Answer.{refused}
use Rattle.rule.specs.declared.Verdict.TheVariants.{True, False}
use Rattle.rule.specs.declared.Outcome.TheVariants.{Decided}
use Rattle.rule.specs.Formula.{origin, infinity, variable, Formula, flag, negate, then, beside, forall}
use Rattle.rule.specs.Body.{body}
use Rattle.rule.specs.Figures.{figures}
use Rattle.rule.specs.Meaning.{rule}
use Rattle.marked_cases.specs.Marked.{figures_are, X+, X_1-, all_up}
use Rattle.marked_cases.specs.Orders.{up_at, over, var, start_with, infinity_with, start, never}

-- "For all positions from X+5 to X+2", which are none.
abbrev pub lacking : Formula → Formula
lacking F = forall (X+ 5) (X+ 2) F

-- "For all positions from 4,095 before a variable's to 4,095 after it".
abbrev pub all_around : ℕ → Formula → Formula
all_around outer F = forall (variable outer (negsuc 4094)) (variable outer (pos 4095)) F

pub record EmptyRanges : Type 0 where
  -- l infinite, u finite; l just above u; l equal to u, which is one position; l by an outer variable: Y in X..X+2, and Y+9 is past X+1
  pub infinity_to_later : figures (all_up infinity (X+ 5)) ≡ figures_are 0 0 2
  pub just_above : figures (all_up (X+ 3) (X+ 2)) ≡ figures_are 0 0 2
  pub equal : figures (all_up (X+ 2) (X+ 2)) ≡ figures_are 0 2 9
  pub above_for_all_outer : figures (forall (X+ 0) (X+ 2) (forall (variable 1 (pos 9)) (X+ 1) (flag 2 0))) ≡ figures_are 0 2 24
  -- a range from position 0 is counted, and so is X-5..0-1, which has no position at any tick either
  pub from_the_start : figures (all_up (origin (pos 5)) (X+ 0)) ≡ refused 13
  pub none_at_any_tick : figures (all_up (X_1- 4) (origin (negsuc 0))) ≡ figures_are 5 0 7
  -- what could not be counted: 0..X, X..infinity, ranges of 8,000 and more positions three deep, more than 4,096 cells; and a range that is always empty itself
  pub over_the_start : figures (lacking (forall (origin (pos 0)) (X+ 0) (flag 2 0))) ≡ figures_are 0 0 2
  pub over_no_end : figures (lacking (forall (X+ 0) infinity (flag 2 0))) ≡ figures_are 0 0 2
  pub over_far : figures (lacking (all_around 1 (all_around 2 (all_around 3 (flag 4 0))))) ≡ figures_are 0 0 2
  pub over_many : figures (forall (X+ 1) (X+ 0) (forall (X_1- 4094) (X+ 0) (flag 2 0))) ≡ figures_are 0 0 2
  pub over_empty : figures (lacking (lacking (flag 2 0))) ≡ figures_are 0 0 2
  -- in each place of a rule: only what is not in such a body counts
  pub under_not : figures (negate (lacking (forall (origin (pos 0)) infinity (flag 2 0)))) ≡ figures_are 0 0 2
  pub first_of_then : figures (then (lacking (flag 1 0)) (all_up (X_1- 0) (X+ 0))) ≡ figures_are 1 0 5
  pub second_of_then : figures (then (all_up (X+ 0) (X+ 2)) (lacking (all_up (X_1- 4094) (X+ 0)))) ≡ figures_are 0 2 18
  pub beside_a_flag : figures (beside (lacking (flag 1 0)) (flag 0 0)) ≡ figures_are 0 0 3
  pub in_a_range : figures (forall (X+ 0) (X+ 2) (lacking (forall (origin (pos 0)) infinity (flag 3 0)))) ≡ figures_are 0 2 24
  -- true at its start, whatever the flags and however many ticks there are: not of it is a violation of each tick, at once
  pub true_at_once : (flags : ℕ → ℕ) (t p : ℕ) → rule (forall infinity infinity (flag 1 0)) flags t p ≡ Decided True p
  pub false_under_not : (flags : ℕ → ℕ) (t p : ℕ) → rule (negate (forall infinity infinity (flag 1 0))) flags t p ≡ Decided False p
  -- "body layout is still checked": 4 to 10, 23 and 24
  pub body_missing : body (over (var 0 5 0) (var 0 2 0) []) ≡ refused 4
  pub unknown_code : body (over (var 0 5 0) (var 0 2 0) (6 ∷ [])) ≡ refused 5
  pub not_bound : body (over never never (up_at 2)) ≡ refused 6
  pub flag_8 : body (over never never (1 ∷ 0 ∷ 8 ∷ [])) ≡ refused 7
  pub offset_above : body (over never never (over (var 0 0 0x10) start (up_at 2))) ≡ refused 8
  pub nested_five : body (over never never (over never never (over never never (over never never (over never never (up_at 1)))))) ≡ refused 9
  pub left_over : body (over never never (up_at 1) ++ (0 ∷ [])) ≡ refused 10
  pub variable_byte : body (over never never (over (start_with 1 0 0) start (up_at 2))) ≡ refused 23
  pub infinity_offset : body (over never never (over (infinity_with 0 1 0) start (up_at 2))) ≡ refused 24
