-- `ranges::Plan::onward` meets its contract.
use native.Mathlib.Omega.{arith}
use Rattle.rule.specs.Ticks.{clamped_at}
use Rattle.ranges.proofs.Planning.{plans_onward}
use Rattle.ranges.proofs.Plan.onward.Goals as goal

pub returns : goal.returns
returns c = plans_onward c.args.first (clamped_at c.args.t) c.args.start c.count_positions.result (omega (arith, c.count_positions.ensures, c.clamp.ensures))
