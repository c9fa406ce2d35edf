-- What the sums over records say.
use Rattle.std.specs.Prelude.{ℕ, ◌≤◌, ◌≡◌, true, false, List, map, Option, Some, None}
use Rattle.refusal.specs.Answer.{Answer, accepted, and_then}
use Rattle.rule.specs.declared.Figures.{Figures}
use Rattle.demand.specs.declared.Running.{Running}
use Rattle.demand.specs.SetContract.{all_cells, all_delays, all_run, needs}
use Rattle.set_admission.specs.declared.records.Sums.{Sums}

-- The most pairs that a step of rules with these figures can report.
abbrev pub most_pairs : Answer (List Figures) → Answer ℕ
most_pairs answer = and_then answer (λ figures. accepted (all_delays figures))

-- The sums of rules with these figures.
pub record SumsAre (figures : List Figures) (sums : Sums) : Type 0 where
  pub cells_are : sums.cells ≡ all_cells figures
  pub pairs_are : sums.pairs ≡ all_delays figures

-- The sums of these rules, which all run beside a first record.
pub record RunningSums (sheet : List ℕ) (lead : Running) (rules : List Running) (sums : Sums) : Type 0 where
  pub run_is : all_run sheet lead.opened lead.next 0 rules ≡ true
  pub sums_are : SumsAre (map (needs sheet) rules) sums
  pub some_cells : sums.cells ≤ 4096
  pub some_pairs : sums.pairs ≤ 8192

-- Of these rules, beside a first record: their sums where all run, and none where one does not.
abbrev pub Summed : List ℕ → Running → List Running → Option Sums → Type 0
Summed sheet lead rules None = all_run sheet lead.opened lead.next 0 rules ≡ false
Summed sheet lead rules (Some sums) = RunningSums sheet lead rules sums
