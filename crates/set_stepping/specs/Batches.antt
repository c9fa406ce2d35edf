-- What taking many flags of a set requires and gives.
use Rattle.std.specs.Prelude.{ℕ, ◌*◌, ◌≤◌, ◌≡◌, List, ◌++◌, length, take, drop}
use Rattle.refusal.specs.Answer.{accepted}
use Rattle.rule.specs.declared.Figures.{Figures}
use Rattle.demand.specs.declared.Running.{Running}
use Rattle.demand.specs.SetContract.{next_tick, all_delays, timed, admit_records, set_batch_of, SetSteps}
use Rattle.cell_runs.specs.Moves.{Stands}
use Rattle.set_stepping.specs.Answers.{set_counts}
use Rattle.set_stepping.specs.Moves.{SetMoved}

-- One flag of a set whose steps report at most so many pairs: two words of the report for each, and one more for its step.
pub record TimedFit (sheet : List ℕ) (records : List Running) (history cells report pairs : ℕ) : Type 0 where
  pub figures : List Figures
  pub admitted : admit_records sheet records history cells (2 * pairs) ≡ accepted figures
  pub pairs_are : pairs ≡ all_delays figures
  pub room : 3 * pairs ≤ report

pub record TimedMoved (sheet : List ℕ) (records : List Running) (history : List ℕ) (flag : ℕ) (cells report : List ℕ) (pairs reported live : ℕ)
    (records' : List Running) (history' cells' report' : List ℕ) : Type 0 where
  pub words : List ℕ
  pub words_long : length words ≡ 2 * pairs
  pub moved : SetMoved sheet records history flag cells (take (2 * pairs) report) reported live records' history' cells' words
  pub report_is : report' ≡ timed (next_tick records) (take (2 * reported) words) ++ drop (3 * reported) report

-- Many flags of a set that is admitted with a report of 8,192 words.
pub record SetBatchFit (sheet : List ℕ) (records : List Running) (history cells pairs : ℕ) : Type 0 where
  pub figures : List Figures
  pub admitted : admit_records sheet records history cells 8192 ≡ accepted figures
  pub pairs_are : pairs ≡ all_delays figures

abbrev pub SetFlagsTaken : List ℕ → List Running → List ℕ → List ℕ → List ℕ → List ℕ → ℕ → ℕ → ℕ → List Running → List ℕ → List ℕ → List ℕ → Type 0
SetFlagsTaken sheet records flags history cells report taken triples live records' history' cells' report' =
    (figures : List Figures) → admit_records sheet records (length history) (length cells) 8192 ≡ accepted figures
    → SetSteps Stands
    (set_batch_of (accepted (set_counts taken triples live sheet records')) sheet records flags history cells report records' history' cells' report') figures
    (set_counts taken triples live sheet records')
