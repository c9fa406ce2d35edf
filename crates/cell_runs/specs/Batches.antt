-- What moving the ticks of a batch requires and gives.
use Rattle.std.specs.Prelude.{ℕ, ◌*◌, ◌≤◌, ◌<◌, ◌≡◌, List, ◌++◌, length, take, drop}
use Rattle.refusal.specs.Answer.{accepted}
use Rattle.rule.specs.declared.Figures.{Figures}
use Rattle.demand.specs.Contract.{State, batch_of, paired, Steps}
use Rattle.cell_runs.specs.Moves.{Stands, TableOf, TickFit, TickMoved}
use Rattle.cell_runs.specs.States.{counts_from}

-- One tick, which has `half` words of the report for its ticks, and as many again for their steps.
pub record PairsFit (ns : List ℕ) (figures : Figures) (L t cells report half : ℕ) : Type 0 where
  pub fit : TickFit ns figures L t cells half
  pub twice : 2 * half ≤ report

pub record PairsMoved (ns : List ℕ) (figures : Figures) (t : ℕ) (history : List ℕ) (flag : ℕ) (cells report : List ℕ) (half reported live : ℕ) (history' cells' report' : List ℕ) : Type 0 where
  pub words : List ℕ
  pub moved : TickMoved ns figures t history flag cells (take half report) reported live history' cells' words
  pub report_is : report' ≡ paired t (take reported words) ++ drop (2 * reported) report

-- Many ticks.
pub record BatchFit (ns : List ℕ) (figures : Figures) (L tick cells : ℕ) : Type 0 where
  pub state : State
  pub table_of : TableOf ns figures L tick state
  pub low : tick < 4611686018427387904
  pub cells_fit : 4 * figures.cells ≤ cells

pub record FlagsTaken (ns : List ℕ) (figures : Figures) (tick live : ℕ) (flags history cells report : List ℕ) (taken pairs live' : ℕ) (history' cells' report' : List ℕ) : Type 0 where
  pub takes : (state : State) → TableOf ns figures (length history) tick state → state.live_count ≡ live
      → Steps Stands state (batch_of (accepted (counts_from state taken pairs live')) flags history cells report history' cells' report') figures (counts_from state taken pairs live')
