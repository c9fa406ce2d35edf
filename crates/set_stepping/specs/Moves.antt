-- What moving the rules of a set by one tick requires and gives.
use Rattle.std.specs.Prelude.{ℕ, ◌+◌, ◌*◌, ◌%◌, ◌≤◌, ◌<◌, ◌≡◌, List, ◌++◌, length, take, drop, set}
use Rattle.refusal.specs.Answer.{accepted}
use Rattle.rule.specs.declared.Figures.{Figures}
use Rattle.demand.specs.declared.Running.{Running}
use Rattle.demand.specs.Contract.{admit_lengths}
use Rattle.demand.specs.SetContract.{body_at, rule_state, own_cells, next_rule, opened_length, next_tick, numbered, needs, admit_records, set_step_of, Ticked, SetTakes}
use Rattle.cell_runs.specs.Moves.{Stands}
use Rattle.set_stepping.specs.Answers.{set_taken}

-- ---- one rule

-- Its body lies in the sheet and opens with its figures, in the part of the cells and the report that it gets.
pub record RuleFit (sheet : List ℕ) (rule : Running) (history cells report : ℕ) : Type 0 where
  pub inside : rule.start + rule.size ≤ length sheet
  pub cells_are : (needs sheet rule).cells ≡ rule.cells
  pub delay_is : (needs sheet rule).delay ≡ rule.delay
  pub admitted : admit_lengths (body_at sheet rule) rule.opened rule.next history (4 * rule.cells) (rule.delay + 1) ≡ accepted (needs sheet rule)
  pub cells_fit : 4 * rule.first + 4 * rule.cells ≤ cells
  pub report_fits : 2 * (rule.delay + 1) ≤ report
  pub few : rule.delay + 1 ≤ 4096

-- It took the tick in its own cells, which are `own` now, and its pairs stand at the report's start.
pub record RuleMoved (sheet : List ℕ) (rule : Running) (index : ℕ) (history : List ℕ) (flag : ℕ) (cells report : List ℕ) (reported live : ℕ) (cells' report' : List ℕ) : Type 0 where
  pub own : List ℕ
  pub own_length : length own ≡ 4 * rule.cells
  pub ticks : List ℕ
  pub count : reported ≡ length ticks
  pub ticked : Ticked Stands (rule_state sheet rule) (needs sheet rule) flag history (own_cells rule cells) own ticks (rule_state sheet (next_rule rule live))
  pub few : reported ≤ rule.delay + 1
  pub few_live : live ≤ rule.delay + 1
  pub cells_are : cells' ≡ take (4 * rule.first) cells ++ (own ++ drop (4 * rule.cells) (drop (4 * rule.first) cells))
  pub report_is : report' ≡ numbered index ticks ++ drop (2 * reported) report

-- ---- all rules

-- The set is admitted.
pub record SetFits (sheet : List ℕ) (records : List Running) (history cells report : ℕ) : Type 0 where
  pub figures : List Figures
  pub admitted : admit_records sheet records history cells report ≡ accepted figures

-- All rules took the tick: a step that took its flag, whose history is this once the byte is stored.
abbrev pub SetMoved : List ℕ → List Running → List ℕ → ℕ → List ℕ → List ℕ → ℕ → ℕ → List Running → List ℕ → List ℕ → List ℕ → Type 0
SetMoved sheet records history flag cells report pairs live records' history' cells' report' =
    (figures : List Figures) → admit_records sheet records (length history) (length cells) (length report) ≡ accepted figures
    → SetTakes Stands (set_step_of (accepted (set_taken pairs live sheet records')) sheet records flag history cells report records' history' cells' report') figures
    (set_taken pairs live sheet records')

-- What the history will be.
abbrev pub stored_byte : List Running → List ℕ → ℕ → List ℕ
stored_byte records history flag = set history (next_tick records % opened_length records) flag

-- ---- in the code

-- The next tick and the live count fit their words.
pub record NextFit (rule : Running) (live : ℕ) : Type 0 where
  pub timely : rule.next < 4611686018427387904
  pub few : live ≤ 4096
