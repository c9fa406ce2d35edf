-- The complete report said of each entry: its entries ascend by step and then tick, and (p, d) is one of them exactly where the rule at tick p of the recording is false
-- at step d. There is one such list. And what the check's answers say.
use Rattle.std.specs.Prelude.{ℕ, ◌-◌, ◌<◌, ◌≡◌, ◌↔◌, ◌⊎◌, true, List, length, get_or, take}
use Rattle.rule.specs.declared.Verdict.TheVariants.{False}
use Rattle.rule.specs.declared.Outcome.TheVariants.{Decided}
use Rattle.rule.specs.Formula.{Formula}
use Rattle.rule.specs.Meaning.{rule}
use Rattle.rule.specs.Recording.{recorded}
use Rattle.complete_report.specs.declared.Violation.{Violation}
use Rattle.complete_report.specs.Lists.{listed, none_lent}
use Rattle.complete_report.specs.Order.{Ascending}

pub record IsReport (F : Formula) (rec : List ℕ) (list : List Violation) : Type 0 where
  pub ordered : Ascending (λ v. true) list
  pub exactly : (v : Violation) → (listed v list ≡ true)
      ↔ ((v.tick < length rec) × (rule F (recorded rec) (length rec - 1) v.tick ≡ Decided False v.step))

-- A list differs from the report at an entry, counted from 0, where the report has v: both have the same entries before it, and there the list has ended or has another.
pub record DiffersAt (claimed report : List Violation) (index : ℕ) (v : Violation) : Type 0 where
  pub alike : take index claimed ≡ take index report
  pub in_report : index < length report
  pub stands : get_or report index none_lent ≡ v
  pub other : (length claimed ≡ index) ⊎ ((index < length claimed) × (get_or claimed index none_lent ≡ v → ⊥))

-- The report ends before an entry, counted from 0, of a list: it is the entries before it.
pub record EndsAt (claimed report : List Violation) (index : ℕ) : Type 0 where
  pub alike : take index claimed ≡ report
  pub ends : index ≡ length report
  pub goes_on : index < length claimed
