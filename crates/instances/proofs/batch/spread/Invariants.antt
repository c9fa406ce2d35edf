-- `instances::batch::spread` meets its contract: the ticks from `at` on are pairs, those before are as they were.
use Prim.Native.Nat.{◌*◌, ◌≤◌}
use mathlib.Core.Path.{◌≡◌}
use mathlib.Core.List.{◌++◌}
use lib.ListN.{length, take, drop}
use Rattle.demand.specs.Contract.{paired}
use Rattle.instances.proofs.batch.spread.Given as goal

abbrev pub invariant-loop-at : goal.invariant-loop-at
invariant-loop-at l =
    (l.at ≤ l.count) × ((length l.report ≡ length l.initial.report) × ((take (2 * l.at) l.report ≡ take (2 * l.at) l.initial.report) × (drop (2 * l.at) l.report ≡ paired l.step (drop l.at (take l.count l.initial.report)) ++ drop (2 * l.count) l.initial.report)))
