-- `naming::names` ends: the formulas left fall from call to call.
use Rattle.naming.proofs.+names.Given as goal

abbrev pub decreases-names : goal.decreases-names
decreases-names l = l.left
