-- `report_check::place_of` meets its contract: the place is the entries before `index`, each of which comes before the violation, and those from it on that do.
use Prim.Native.Nat.{◌≤◌}
use lib.ListN.{length}
use Rattle.complete_report.specs.Lists.{violations_in}
use Rattle.report_check.proofs.Entries.{Placed}
use Rattle.report_check.proofs.place_of.Given as goal

abbrev pub invariant-loop-index : goal.invariant-loop-index
invariant-loop-index l = (l.count ≤ length (violations_in l.claimed)) × Placed l.violation (violations_in l.claimed) l.count l.index
