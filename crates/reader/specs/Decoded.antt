-- What reading a whole body answers and leaves in the node table.
use Rattle.std.specs.Prelude.{ℕ, ◌*◌, ◌≤◌, ◌≡◌, List, Result, Ok, Err}
use Rattle.refusal.specs.Answer.{Answer, refused, accepted}
use Rattle.refusal.specs.Numbers.{number_of}
use Rattle.refusal.specs.declared.Refusal.{Refusal}
use Rattle.rule.specs.Formula.{Formula, formulas}
use Rattle.rule.specs.Body.{body}
use Rattle.nodes.specs.Table.{formula_in, Holds, Cleared}

-- What each case of the code's answer stands for, with the table that was read into.
abbrev pub reading_answer : Result (Unit {0}) Refusal → List ℕ → Answer Formula
reading_answer (Ok stored) ns = accepted (formula_in 64 ns 0 0)
reading_answer (Err refusal) ns = refused (number_of refusal)

-- The table holds F from its first word on, 12 words a formula; so F is what is read off it.
pub record TableHolds (F : Formula) (ns : List ℕ) : Type 0 where
  pub holds : Holds F ns 0 0 (12 * formulas F)
  pub room : 12 * formulas F ≤ 768
  pub is : formula_in 64 ns 0 0 ≡ F

-- The table holds the formula that was read. After a refusal it is all 0.
abbrev pub Tabled : List ℕ → Answer Formula → Type 0
Tabled ns (refused number) = Cleared ns
Tabled ns (accepted F) = TableHolds F ns

pub record Decoded (bytes : List ℕ) (reading : Result (Unit {0}) Refusal) (ns : List ℕ) : Type 0 where
  pub answer : reading_answer reading ns ≡ body bytes
  pub tabled : Tabled ns (body bytes)
