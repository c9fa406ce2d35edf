-- `set_stepping::pairs::number_ticks` meets its contract: the ticks from `at` on are pairs, those before are as they were.
use Prim.Native.Nat.{ℕ, suc, ◌-◌}
use mathlib.Core.Path.{◌≡◌}
use native.Mathlib.Omega.{arith}
use lib.ListN.{length-set}
use Rattle.set_stepping.proofs.InPlace.{NumberedFrom, numbered_turn}
use Rattle.set_stepping.proofs.pairs.number_ticks.Goals as goal

pub loop-at-preserved : goal.loop-at-preserved
loop-at-preserved c =
    let l = c.loop-at in
    let a = c.args in
    let j : ℕ = l.at - 1 in
    let e : l.at ≡ suc j = omega arith in
    let so_far : NumberedFrom a.report.now a.count a.rule (suc j) l.report = rw e at l.invariant in
    (simp length-set l.invariant.0, numbered_turn a.report.now a.count a.rule c.requires l.report j (omega arith) so_far)
