-- A rule's figures as the limits take and answer them, and what an answer leaves of the node table.
use Rattle.std.specs.Prelude.{ℕ, ◌≡◌, List}
use Rattle.refusal.specs.Answer.{Answer, refused, accepted}
use Rattle.rule.specs.declared.Size.{Size}
use Rattle.rule.specs.declared.Size.TheVariants.{Finite, Unbounded}
use Rattle.rule.specs.declared.Figures.{Figures}
use Rattle.nodes.specs.Table.{Cleared}
use Rattle.cell_count.specs.Counts.{rule_cells}

-- A refusal clears the table, and an accepted answer keeps it.
abbrev pub KeptOrCleared : Answer Figures → List ℕ → List ℕ → Type 0
KeptOrCleared (refused number) old new = Cleared new
KeptOrCleared (accepted figures) old new = new ≡ old

-- A rule's cells from its delay and its formula's cells.
abbrev pub capped_needed : Size → ℕ → Size
capped_needed (Finite delay) cells = Finite (rule_cells delay cells)
capped_needed Unbounded cells = Unbounded
