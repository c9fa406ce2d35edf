-- The marked cases of document 01, "Proving ground", with those of document 02's point 6, as one proposition. proofs/Cases.antt proves it.
use Rattle.std.specs.Prelude.{ℕ, ◌≡◌, List, [], ◌∷◌, pos, negsuc}
use Rattle.refusal.specs.Answer.{Answer, refused, accepted, and_then}
use Rattle.sheet.specs.Sheet.{rule_body}
use Rattle.rule.specs.declared.Figures.{Figures}
use Rattle.rule.specs.declared.Verdict.TheVariants.{True}
use Rattle.rule.specs.declared.Outcome.TheVariants.{Decided}
use Rattle.rule.specs.Formula.{Bound, origin, infinity, variable, Formula, flag, negate, then, beside, forall}
use Rattle.rule.specs.Body.{body}
use Rattle.rule.specs.Figures.{figures, body_figures}
use Rattle.rule.specs.Meaning.{rule}

-- The answer that these are the figures: history, delay, cells.
abbrev pub figures_are : ℕ → ℕ → ℕ → Answer Figures
figures_are history delay cells = accepted (record { history = history; delay = delay; cells = cells })

-- The figures of a rule of a sheet: 1 to 15, 23, 24.
abbrev pub sheet_figures : List ℕ → ℕ → Answer Figures
sheet_figures sheet index = and_then (rule_body sheet index) body_figures

-- The bounds X + n and X - (n + 1), and "for all positions of a range, flag 0 there".
abbrev pub X+ : ℕ → Bound
X+ n = variable 0 (pos n)

abbrev pub X_1- : ℕ → Bound
X_1- n = variable 0 (negsuc n)

abbrev pub all_up : Bound → Bound → Formula
all_up B₁ B₂ = forall B₁ B₂ (flag 1 0)

-- "Sheet 01 05 00 11 00, then 02 04 01 00 00 05 02 00 FF FF 02 00 02 00 01 01 00", and what it says: not (flag 0 at X beside for all Y from
-- X-1 to X+2, flag 0 at Y).
abbrev pub example : List ℕ
example =
    0x01 ∷ 0x05 ∷ 0x00 ∷ 0x11 ∷ 0x00 ∷
    0x02 ∷ 0x04 ∷ 0x01 ∷ 0x00 ∷ 0x00 ∷ 0x05 ∷ 0x02 ∷ 0x00 ∷ 0xFF ∷ 0xFF ∷ 0x02 ∷ 0x00 ∷ 0x02 ∷ 0x00 ∷ 0x01 ∷ 0x01 ∷ 0x00 ∷ []

abbrev pub example_rule : Formula
example_rule = negate (beside (flag 0 0) (all_up (X_1- 0) (X+ 2)))

pub record Marked : Type 0 where
  -- "is the example of document 000: history 1, delay 2, cells 21"
  pub example_is : and_then (rule_body example 0) body ≡ accepted example_rule
  pub example_figures : sheet_figures example 0 ≡ figures_are 1 2 21
  -- "For all Y from X to X+10, for all Z from X to X, flag 0 at Z": history 10, delay 10, cells 385
  pub later_start : figures (forall (X+ 0) (X+ 10) (forall (X+ 0) (X+ 0) (flag 2 0))) ≡ figures_are 10 10 385
  -- A for X..X+2, B for X-1..X, flag bodies: "A then B" 3, 2, 18; "A beside B" 1, 2, 27
  pub A_then_B : figures (then (all_up (X+ 0) (X+ 2)) (all_up (X_1- 0) (X+ 0))) ≡ figures_are 3 2 18
  pub A_beside_B : figures (beside (all_up (X+ 0) (X+ 2)) (all_up (X_1- 0) (X+ 0))) ≡ figures_are 1 2 27
  -- 0..X: 13. X..0: accepted, 0, 0, 3. X..infinity: 11. infinity..X: 0, 0, 2
  pub from_zero : figures (all_up (origin (pos 0)) (X+ 0)) ≡ refused 13
  pub to_zero : figures (all_up (X+ 0) (origin (pos 0))) ≡ figures_are 0 0 3
  pub to_infinity : figures (all_up (X+ 0) infinity) ≡ refused 11
  pub from_infinity : figures (all_up infinity (X+ 0)) ≡ figures_are 0 0 2
  -- 02, point 6: "the marked case infinity..X keeps 0, 0, 2; infinity..infinity and X+5..X+2 are accepted with the same figures"
  pub infinity_to_infinity : figures (all_up infinity infinity) ≡ figures_are 0 0 2
  pub above_its_end : figures (all_up (X+ 5) (X+ 2)) ≡ figures_are 0 0 2
  -- X..X+62: 4,095 cells; X..X+63: 15. X+255..X+255: 768 cells; X+256..X+256: 12
  pub cells_within : figures (all_up (X+ 0) (X+ 62)) ≡ figures_are 0 62 4095
  pub cells_above : figures (all_up (X+ 0) (X+ 63)) ≡ refused 15
  pub delay_within : figures (all_up (X+ 255) (X+ 255)) ≡ figures_are 0 255 768
  pub delay_above : figures (all_up (X+ 256) (X+ 256)) ≡ refused 12
  -- X-3..X-1 at tick 0: true at step 0, whatever the flags and however many ticks there are
  pub before_the_stream : (flags : ℕ → ℕ) (t : ℕ) → rule (all_up (X_1- 2) (X_1- 0)) flags t 0 ≡ Decided True 0
