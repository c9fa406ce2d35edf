-- `set_stepping::batch::all_live` meets its contract: the live ticks of the first `index` rules.
use mathlib.Core.Path.{ap}
use native.Mathlib.Omega.{arith}
use native.Mathlib.Numerals.{add-one}
use Rattle.demand.specs.declared.Running.{Running}
use Rattle.running.specs.Records.{rules_in}
use Rattle.set_stepping.proofs.Timed.{live_next}
use Rattle.set_stepping.proofs.batch.all_live.Goals as goal

pub loop-index-preserved : goal.loop-index-preserved
loop-index-preserved c =
    let l = c.loop-index in
    rw (add-one l.index) (
      omega (arith, l.invariant.0),
      omega (arith, l.invariant.1, live_next (rules_in c.args.records.now) l.index, ap (λ (r : Running). r.live) c.rule_at.ensures),
    )
