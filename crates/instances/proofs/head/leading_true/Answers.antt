-- `instances::head::leading_true` meets its contract: each turn moves the head on over one slot that holds true.
use native.Mathlib.Omega.{arith}
use Rattle.cell_runs.proofs.Heads.{moved_more}
use Rattle.instances.proofs.head.leading_true.Goals as goal

pub loop-trues-preserved : goal.loop-trues-preserved
loop-trues-preserved c =
    let now = c.loop-trues in
    let more = c.loop-trues-test.true in
    moved_more c.args.p c.args.size c.args.positions c.args.slots.now c.args.head.leading c.args.head.latest now.trues now.last c.step_after.result c.max-last.result
    more (c.requires.slots (omega (arith, more))) (omega (arith, c.if-slots-at-ne1.false)) c.step_after.ensures c.max-last.ensures now.invariant
