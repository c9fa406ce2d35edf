-- `report_writing::count_violations` meets its contract: those that are counted and those of the ticks from `tick` on are all violations, and there is no more than one to a tick.
use Rattle.std.proofs.Common.{◌+◌, ◌≤◌, ◌≡◌, length}
use Rattle.nodes.specs.Table.{formula_in}
use Rattle.complete_report.specs.FalseSteps.{false_step}
use Rattle.report_writing.specs.Collecting.{unordered}
use Rattle.report_writing.proofs.Collected.{left}
use Rattle.report_writing.proofs.count_violations.Given as goal

abbrev pub invariant-loop-tick : goal.invariant-loop-tick
invariant-loop-tick l =
    (l.count ≤ l.tick)
    × (l.count + length (left (false_step (formula_in 64 l.recorded.nodes.now 0 0) l.recorded.recording.now) (length l.recorded.recording.now) (length l.recorded.recording.now) l.tick) ≡ length (unordered (formula_in 64 l.recorded.nodes.now 0 0) l.recorded.recording.now))
