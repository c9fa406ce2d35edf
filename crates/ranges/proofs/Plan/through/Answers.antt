-- `ranges::Plan::through` meets its contract.
use native.Mathlib.Omega.{arith}
use Rattle.ranges.proofs.Planning.{plans_through, plans_cut}
use Rattle.ranges.proofs.Plan.through.Goals as goal

pub returns-then-last-clamp : goal.returns-then-last-clamp
returns-then-last-clamp c = plans_through _ _ _ _ _ c.count_positions.ensures (omega (arith, c.count_positions.ensures, c.clamp.ensures, c.if-last-clamp.true))

pub returns-then-first-last : goal.returns-then-first-last
returns-then-first-last c = plans_cut _ _ _ _ _ _ _ c.if-first-last.true (omega (arith, c.clamp.ensures, c.if-last-clamp.false)) c.onward.ensures

pub returns : goal.returns
returns c = plans_through _ _ _ _ _ (omega (arith, c.if-first-last.false)) (omega arith)
