-- `report_writing::count_violations` meets its contract: those that are counted and those of the ticks from `tick` on are all violations, and there is no more than one to a tick.
use Rattle.std.proofs.Common.{length, ap, ◌∙◌, arith}
use Rattle.nodes.specs.Table.{formula_in}
use Rattle.complete_report.specs.FalseSteps.{false_step}
use Rattle.recorded_rule.proofs.Below.{below_is_some}
use Rattle.report_writing.proofs.Collected.{counted_some, counted_none, none_left}
use Rattle.report_writing.proofs.count_violations.Goals as goal
use Rattle.report_writing.proofs.count_violations.Goals.{then-is_some, else-is_some}

pub loop-tick-preserved : goal.loop-tick-preserved
loop-tick-preserved c =
    let rec = c.args.recorded.now.recording.now in
    let steps = false_step (formula_in 64 c.args.recorded.now.nodes.now 0 0) rec in
    let turn = c.loop-tick in
    let test = below_is_some (length rec) (steps turn.tick) c.false_step.ensures c.is_some.ensures in
    elim c.if-is_some.branch [
      | then-is_some w ↦
          let one = counted_some steps (length rec) (length rec) turn.tick c.loop-tick-test.true (test ∙ w.if-is_some.true) in
          (omega (arith, w.count-is, turn.invariant.0), omega (arith, w.count-is, turn.invariant.1, one))
      | else-is_some w ↦
          let none = counted_none steps (length rec) (length rec) turn.tick c.loop-tick-test.true (test ∙ w.if-is_some.false) in
          (omega (arith, w.count-is, turn.invariant.0), omega (arith, w.count-is, turn.invariant.1, none))
    ]

pub returns : goal.returns
returns c =
    let rec = c.args.recorded.now.recording.now in
    omega (
      arith,
      c.loop-tick.invariant.1,
      ap length (none_left (false_step (formula_in 64 c.args.recorded.now.nodes.now 0 0) rec) (length rec) (length rec) c.loop-tick.tick (omega arith)),
    )
