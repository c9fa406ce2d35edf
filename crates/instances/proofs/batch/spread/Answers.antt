-- `instances::batch::spread` meets its contract: the ticks from `at` on are pairs, those before are as they were.
use Prim.Native.Nat.{ℕ, suc, ◌*◌, ◌-◌}
use mathlib.Core.Path.{◌≡◌}
use mathlib.Core.List.{List, ◌++◌}
use native.Mathlib.Omega.{arith}
use lib.ListN.{take, drop, length-set}
use Rattle.demand.specs.Contract.{paired}
use Rattle.cell_runs.proofs.Batches.{spread_front, spread_rest}
use Rattle.instances.proofs.batch.spread.Goals as goal

pub loop-at-preserved : goal.loop-at-preserved
loop-at-preserved c =
    let l = c.loop-at in
    let a = c.args in
    let r₀ : List ℕ = a.report.now in
    let j : ℕ = l.at - 1 in
    let e : l.at ≡ suc j = omega arith in
    let front : take (2 * suc j) l.report ≡ take (2 * suc j) r₀ = rw e at l.invariant.1.1.0 in
    let rest : drop (2 * suc j) l.report ≡ paired a.step (drop (suc j) (take a.count r₀)) ++ drop (2 * a.count) r₀ = rw e at l.invariant.1.1.1 in (
      omega arith,
      (
        simp length-set l.invariant.1.0,
        (
          spread_front r₀ l.report a.count a.step j (omega arith) (omega arith) l.invariant.1.0 front rest,
          spread_rest r₀ l.report a.count a.step j (omega arith) (omega arith) l.invariant.1.0 front rest,
        ),
      ),
    )
