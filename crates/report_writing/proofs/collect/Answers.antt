-- `report_writing::collect` meets its contract: the first `count` entries are the violations of the ticks below `tick`, and those after them are as they were.
use Rattle.std.proofs.Common.{rules, length, arith, ◌≤◌}
use lib.ListN.{length-map}
use Rattle.nodes.specs.Table.{formula_in}
use Rattle.complete_report.specs.Lists.{violation_in, violations_in}
use Rattle.complete_report.specs.FalseSteps.{false_step, by_tick}
use Rattle.report_writing.proofs.Collected.{one_collected, other_collected, all_collected}
use Rattle.report_writing.proofs.collect.Goals as goal
use Rattle.report_writing.proofs.collect.Goals.{in-Some, in_default}

pub loop-tick-preserved : goal.loop-tick-preserved
loop-tick-preserved c =
    let rec = c.args.recorded.now.recording.now in
    let steps = false_step (formula_in 64 c.args.recorded.now.nodes.now 0 0) rec in
    let turn = c.loop-tick in
    let room : length (by_tick steps (length rec) (length rec) 0) ≤ length (violations_in turn.list) =
    omega (arith, c.requires, turn.invariant.0, length-map turn.list violation_in) in
    elim c.match-false_step.branch [
      | in-Some w ↦
          let stored = one_collected steps (length rec) (length rec) (violations_in c.args.list.now) (violations_in turn.list) turn.count turn.tick turn.invariant.1
          c.loop-tick-test.true room w.in-Some.ensures in
          (search rules, rw (w.count-is, w.list-is, w.store_violation.ensures) stored)
      | in_default w ↦
          let kept = other_collected steps (length rec) (length rec) (violations_in c.args.list.now) (violations_in turn.list) turn.count turn.tick turn.invariant.1
          c.loop-tick-test.true w.in_default.ensures in
          (search rules, rw (w.count-is, w.list-is) kept)
    ]

pub returns-clause-value : goal.returns-clause-value
returns-clause-value c =
    let rec = c.args.recorded.now.recording.now in
    let turn = c.loop-tick in
    (all_collected (false_step (formula_in 64 c.args.recorded.now.nodes.now 0 0) rec) (length rec) (length rec) (violations_in c.args.list.now) (violations_in turn.list) turn.count turn.tick
    turn.invariant.1 (omega arith)).0

pub returns-clause-list_after : goal.returns-clause-list_after
returns-clause-list_after c =
    let rec = c.args.recorded.now.recording.now in
    let turn = c.loop-tick in
    (all_collected (false_step (formula_in 64 c.args.recorded.now.nodes.now 0 0) rec) (length rec) (length rec) (violations_in c.args.list.now) (violations_in turn.list) turn.count turn.tick
    turn.invariant.1 (omega arith)).1
