-- `report_check::agreeing::agree` meets its contract: the entries before `index` agree, and those that agree are these and the ones from it on; the marks are theirs.
use mathlib.Core.Path.{◌≡◌}
use lib.ListN.{length, take}
use Rattle.nodes.specs.Table.{formula_in}
use Rattle.complete_report.specs.Lists.{violations_in}
use Rattle.complete_report.specs.FalseSteps.{false_step}
use Rattle.report_check.specs.Marks.{all_marked}
use Rattle.report_check.proofs.Entries.{Agrees}
use Rattle.report_check.proofs.agreeing.agree.Given as goal

abbrev pub invariant-loop-index : goal.invariant-loop-index
invariant-loop-index l =
    Agrees (false_step (formula_in 64 l.recorded.nodes.now 0 0) l.recorded.recording.now) (length l.recorded.recording.now) (violations_in l.claimed) l.index
    × (l.marks ≡ all_marked l.initial.marks (take l.index (violations_in l.claimed)))
