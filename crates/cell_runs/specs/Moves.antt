-- The invariant of the cells, and what moving all instances of a rule by one tick requires and gives: crate demand's promise of a step.
use Rattle.std.specs.Prelude.{ℕ, ◌+◌, ◌*◌, ◌≤◌, ◌<◌, ◌≡◌, List, [], ◌∷◌, length}
use Rattle.refusal.specs.Answer.{accepted}
use Rattle.rule.specs.declared.Figures.{Figures}
use Rattle.rule.specs.Formula.{Formula}
use Rattle.rule.specs.Body.{body}
use Rattle.rule.specs.Figures.{at_tick, figures}
use Rattle.reader.specs.Decoded as decoded
use Rattle.figures.specs.Measured.{SizesAt}
use Rattle.demand.specs.Contract.{State, step_of, Invariant, Takes}
use Rattle.cell_runs.specs.Tree.{words}
use Rattle.cell_runs.specs.Sized.{sized}
use Rattle.cell_runs.specs.Instances.{InstancesHold}
use Rattle.cell_runs.specs.States.{taken_from}

-- The invariant: the needed cells of the state's rule are what the ticks of the stream `flags` before its next tick leave. Tick p, of the last delay + 1,
-- has slot p mod (delay + 1), four words for its own cell and four for each cell of the formula.
unfoldable pub Stands : Invariant
Stands state cells flags =
    (F : Formula) (needs : Figures) → body state.body_bytes ≡ accepted F → figures F ≡ accepted needs
    → InstancesHold (sized F (at_tick ∷ [])) (needs.delay + 1) (4 + words (at_tick ∷ []) (sized F (at_tick ∷ []))) flags state.next cells

-- The node table holds the rule's formula with its sizes, and the rule is within the limits.
pub record Prepares (F : Formula) (needs : Figures) (ns : List ℕ) : Type 0 where
  pub stands : decoded.TableHolds F ns
  pub sizes : SizesAt F ns (at_tick ∷ []) 0
  pub within : figures F ≡ accepted needs

-- The state's rule stands in the node table and has these figures; the state was opened with a history of L bytes, as an opening admits, and takes
-- tick t next.
pub record TableOf (ns : List ℕ) (needs : Figures) (L t : ℕ) (state : State) : Type 0 where
  pub formula : Formula
  pub reads : body state.body_bytes ≡ accepted formula
  pub prepares : Prepares formula needs ns
  pub opened : state.opened ≡ L
  pub opened_high : L ≤ 4096
  pub opened_low : needs.history ≤ L
  pub next : state.next ≡ t

-- What is required: a state that is admitted. Nothing of what history and cells hold.
pub record TickFit (ns : List ℕ) (needs : Figures) (L t cells report : ℕ) : Type 0 where
  pub state : State
  pub table_of : TableOf ns needs L t state
  pub low : t < 4611686018427387904
  pub cells_fit : 4 * needs.cells ≤ cells
  pub report_fits : needs.delay + 1 ≤ report

-- What is given: a step that takes the tick, of every such state.
pub record TickMoved (ns : List ℕ) (needs : Figures) (t : ℕ) (history : List ℕ) (flag : ℕ) (cells report : List ℕ) (reported live : ℕ) (history' cells' report' : List ℕ) : Type 0 where
  pub takes : (state : State) → TableOf ns needs (length history) t state
      → Takes Stands state (step_of (accepted (taken_from state reported live)) flag history cells report history' cells' report') needs (taken_from state reported live)
