-- `ranges::plan_up_to` meets its contract.
use mathlib.Core.Path.{refl, sym}
use Rattle.ranges.proofs.Planning.{plans_none, plans_same}
use Rattle.ranges.proofs.plan_up_to.Goals as goal

pub returns-in-Empty : goal.returns-in-Empty
returns-in-Empty c = plans_same (sym c.in-Empty.is) refl (plans_none _ _)
