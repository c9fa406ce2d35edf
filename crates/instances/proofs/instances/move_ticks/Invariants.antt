-- `instances::move_ticks` meets its contract: each turn moves one tick more, in its own slot.
use Prim.Native.Nat.{◌%◌}
use mathlib.Core.Path.{◌≡◌}
use Rattle.cell_runs.specs.Tree.{tree_at}
use Rattle.cell_runs.proofs.Ticks.{MovedUntil}
use Rattle.instances.proofs.instances.move_ticks.Given as goal

abbrev pub invariant-loop-p : goal.invariant-loop-p
invariant-loop-p l =
    MovedUntil (tree_at l.left l.tick.nodes.now 0) l.slots.count l.slots.size l.tick.history.now l.tick.flag l.tick.t l.low l.initial.table l.initial.report l.p l.reported l.live l.table l.report × (l.slot ≡ l.p % l.slots.count)
