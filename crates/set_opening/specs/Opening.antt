-- What the answer of an opening of a set stands for, and what its parts need and leave.
use Rattle.std.specs.Prelude.{ℕ, ◌≤◌, ◌≡◌, List, length, Result, Ok, Err}
use Rattle.refusal.specs.declared.Refusal.{Refusal}
use Rattle.refusal.specs.Answer.{Answer, refused, accepted}
use Rattle.refusal.specs.Numbers.{number_of}
use Rattle.rule.specs.declared.Figures.{Figures}
use Rattle.demand.specs.declared.Running.{Running}
use Rattle.demand.specs.SetContract.{running_rules, set_figures}

-- The running rules of this sheet, in the records as they are then; or the refusal's number.
abbrev pub set_open_answer : Result (Unit {0}) Refusal → List ℕ → List Running → Answer (List Running)
set_open_answer (Ok opened) sheet records = accepted (running_rules sheet records)
set_open_answer (Err refusal) sheet records = refused (number_of refusal)

-- The rules of a sheet can be opened: there are `count` of them, with figures, and as many records at least.
pub record Openable (sheet : List ℕ) (records count opened : ℕ) : Type 0 where
  pub figures : List Figures
  pub figures_are : set_figures sheet ≡ accepted figures
  pub count-is : count ≡ length figures
  pub room : count ≤ records
  pub low : opened ≤ 4096
