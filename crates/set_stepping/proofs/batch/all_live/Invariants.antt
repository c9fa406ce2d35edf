-- `set_stepping::batch::all_live` meets its contract: the live ticks of the first `index` rules.
use Prim.Native.Nat.{◌*◌, ◌≤◌}
use mathlib.Core.Path.{◌≡◌}
use lib.ListN.{take}
use Rattle.demand.specs.SetContract.{all_live}
use Rattle.running.specs.Records.{rules_in}
use Rattle.set_stepping.proofs.batch.all_live.Given as goal

abbrev pub invariant-loop-index : goal.invariant-loop-index
invariant-loop-index l = (l.live ≤ 4294967295 * l.index) × (l.live ≡ all_live (take l.index (rules_in l.records)))
