-- What all rules of a sheet need together. Which sheets and openings are refused is said by `set_figures` and `admit_set` (crate demand).
use Rattle.std.specs.Prelude.{ℕ, ◌+◌, ◌≤◌, max, ◌≡◌, List, leb, length}
use Rattle.refusal.specs.Answer.{Answer, accepted, and_then}
use Rattle.sheet.specs.Sheet.{rule_count}
use Rattle.rule.specs.declared.Figures.{Figures}
use Rattle.demand.specs.Contract.{must}
use Rattle.demand.specs.SetContract.{all_cells, all_delays, largest, bodies_from, sheet_bodies}
use Rattle.set_admission.specs.declared.sheet_figures.SetFigures.{SetFigures}

-- What rules with these figures need together.
abbrev pub sums_of : List Figures → SetFigures
sums_of figures = record { rules = length figures; history = largest figures; cells = all_cells figures; pairs = all_delays figures }

abbrev pub summed : Answer (List Figures) → Answer SetFigures
summed answer = and_then answer (λ figures. accepted (sums_of figures))

-- ---- what the code's parts ask and answer

-- The sheet has 1 to 32 rules, and its bodies lie as its entries say.
abbrev pub Laid : List ℕ → Type 0
Laid sheet = sheet_bodies sheet ≡ accepted (bodies_from (rule_count sheet) sheet 0)

-- One rule more.
abbrev pub with_figures : SetFigures → Figures → SetFigures
with_figures sums figures =
    record {
      rules = sums.rules + 1;
      history = max sums.history figures.history;
      cells = sums.cells + figures.cells;
      pairs = sums.pairs + (figures.delay + 1);
    }

-- The sums of at most 32 rules, each with at most 4,096 cells and a delay + 1 of at most 256.
pub record SmallSums (sums : SetFigures) : Type 0 where
  pub some_rules : sums.rules ≤ 32
  pub some_cells : sums.cells ≤ 131072
  pub some_pairs : sums.pairs ≤ 8192

-- 27 by the sums.
abbrev pub few_cells : SetFigures → Answer SetFigures
few_cells sums = must (leb sums.cells 4096) 27 (accepted sums)
