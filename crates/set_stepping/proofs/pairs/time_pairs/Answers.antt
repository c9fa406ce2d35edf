-- `set_stepping::pairs::time_pairs` meets its contract: the pairs from `at` on are triples, the words before are as they were.
use Prim.Native.Nat.{ℕ, suc, ◌-◌}
use mathlib.Core.Path.{◌≡◌}
use native.Mathlib.Omega.{arith}
use lib.ListN.{length-set}
use Rattle.set_stepping.proofs.InPlace.{TimedFrom, timed_turn}
use Rattle.set_stepping.proofs.pairs.time_pairs.Goals as goal

pub loop-at-preserved : goal.loop-at-preserved
loop-at-preserved c =
    let l = c.loop-at in
    let a = c.args in
    let j : ℕ = l.at - 1 in
    let e : l.at ≡ suc j = omega arith in
    let so_far : TimedFrom a.report.now a.count a.step (suc j) l.report = rw e at l.invariant in
    (simp length-set l.invariant.0, timed_turn a.report.now a.count a.step c.requires l.report j (omega arith) so_far)
