-- `report_writing::collect` meets its contract: the first `count` entries are the violations of the ticks below `tick`, and those after them are as they were.
use Rattle.std.proofs.Common.{◌≡◌, length}
use Rattle.nodes.specs.Table.{formula_in}
use Rattle.complete_report.specs.Lists.{violations_in}
use Rattle.complete_report.specs.FalseSteps.{false_step}
use Rattle.report_writing.proofs.Collected.{Collected}
use Rattle.report_writing.proofs.collect.Given as goal

abbrev pub invariant-loop-tick : goal.invariant-loop-tick
invariant-loop-tick l =
    (length l.list ≡ length l.initial.list)
    × Collected (false_step (formula_in 64 l.recorded.nodes.now 0 0) l.recorded.recording.now) (length l.recorded.recording.now) (length l.recorded.recording.now) (violations_in l.initial.list) (violations_in l.list) l.count l.tick
