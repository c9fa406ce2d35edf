-- What reading one formula with its parts answers and writes.
use Rattle.std.specs.Prelude.{ℕ, ◌<◌, ◌≡◌, List, get_or, Result}
use Rattle.refusal.specs.declared.Refusal.{Refusal}
use Rattle.refusal.specs.Answer.{Answer, refused, accepted, answer_of}
use Rattle.rule.specs.Body.{Read, stop, read, formula_at}
use Rattle.nodes.specs.Table.{Holds}
use Rattle.reader.specs.Written.{node_start}
use Rattle.reader.specs.declared.Position.{Position}

-- Where a formula ends: the position after it, and the formulas left.
abbrev pub ending : ℕ → ℕ → Position
ending next left = record { at = next; left = left }

-- Where the definition's formula ends, or its refusal.
abbrev pub formula_end : Read → Answer Position
formula_end (stop number) = refused number
formula_end (read F next left) = accepted (ending next left)

-- The table holds what was read.
abbrev pub Placed : List ℕ → ℕ → ℕ → Read → Type 0
Placed ns depth left (stop number) = Unit {0}
Placed ns depth left (read F next rest) = Holds F ns depth (node_start left) (node_start rest)

-- The formula at a position, inside `depth` quantifiers and with `left` formulas left: its end or refusal; no word before its node changed.
pub record Filled (bytes : List ℕ) (at depth left : ℕ) (old : List ℕ) (part : Result Position Refusal) (new : List ℕ) : Type 0 where
  pub answer : answer_of part ≡ formula_end (formula_at bytes at depth left)
  pub below : (index : ℕ) → index < node_start left → get_or new index 0 ≡ get_or old index 0
  pub placed : Placed new depth left (formula_at bytes at depth left)
