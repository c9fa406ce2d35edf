-- What the library answers of a body's figures, and what it leaves in the node table for the engine.
use Rattle.std.specs.Prelude.{ℕ, ◌≡◌, List, [], ◌∷◌, Result}
use Rattle.refusal.specs.Answer.{Answer, refused, accepted, answer_of}
use Rattle.refusal.specs.declared.Refusal.{Refusal}
use Rattle.rule.specs.Formula.{Formula}
use Rattle.rule.specs.Body.{body}
use Rattle.rule.specs.Figures.{at_tick, body_figures}
use Rattle.rule.specs.declared.Figures.{Figures}
use Rattle.nodes.specs.Table.{Cleared}
use Rattle.reader.specs.Decoded.{TableHolds}
use Rattle.figures.specs.Measured.{SizesAt}

-- The body has a formula, and the table holds it with its sizes.
abbrev pub SizedTable : List ℕ → Answer Formula → Type 0
SizedTable ns (refused number) = ⊥
SizedTable ns (accepted F) = TableHolds F ns × SizesAt F ns (at_tick ∷ []) 0

-- What an answer leaves in the table: the body's formula, and 0 in all words after a refusal.
abbrev pub Leaves : List ℕ → List ℕ → Answer Figures → Type 0
Leaves bytes ns (refused number) = Cleared ns
Leaves bytes ns (accepted figures) = SizedTable ns (body bytes)

pub record Prepared (bytes : List ℕ) (result : Result Figures Refusal) (ns : List ℕ) : Type 0 where
  pub answer : answer_of result ≡ body_figures bytes
  pub leaves : Leaves bytes ns (answer_of result)
