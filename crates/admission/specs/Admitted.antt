-- What admitting a step answers, and what it leaves in the node table.
use Rattle.std.specs.Prelude.{ℕ, ◌≤◌, ◌≡◌, List, Result}
use Rattle.refusal.specs.declared.Refusal.{Refusal}
use Rattle.refusal.specs.Answer.{answer_of}
use Rattle.rule.specs.declared.Figures.{Figures}
use Rattle.figures.specs.Prepared.{Leaves}
use Rattle.demand.specs.Contract.{admit_lengths}

-- Figures within the limits.
pub record FiguresWithin (figures : Figures) : Type 0 where
  pub short : figures.delay ≤ 255
  pub old : figures.history ≤ 4096
  pub few : figures.cells ≤ 4096

pub record Admitted (body : List ℕ) (L t history table report : ℕ) (result : Result Figures Refusal) (nodes : List ℕ) : Type 0 where
  pub answer : answer_of result ≡ admit_lengths body L t history table report
  pub leaves : Leaves body nodes (answer_of result)
