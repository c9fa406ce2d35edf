-- `nodes::operand::skip_nots` meets its contract: what is left to skip is skipped to the same formula.
use mathlib.Core.Path.{◌≡◌}
use mathlib.Core.Bool.{false}
use Rattle.nodes.specs.Nots.{past_nots}
use Rattle.nodes.proofs.operand.skip_nots.Given as goal

abbrev pub invariant-loop-under : goal.invariant-loop-under
invariant-loop-under l = past_nots l.left l.nodes l.node false ≡ past_nots l.under.left l.nodes l.under.node l.under.odd

abbrev pub decreases-loop-under : goal.decreases-loop-under
decreases-loop-under l = l.under.left
