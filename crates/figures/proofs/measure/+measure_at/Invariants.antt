-- `figures::measure::measure_at` meets its contract, by the formulas left.
use Rattle.figures.proofs.measure.+measure_at.Given as goal

abbrev pub decreases-measure_at : goal.decreases-measure_at
decreases-measure_at l = l.left
