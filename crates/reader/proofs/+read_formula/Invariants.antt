-- `reader::read_formula` meets its contract, by the formulas left: each arm is one law of proofs/Fills.antt.
use Rattle.reader.proofs.+read_formula.Given as goal

abbrev pub decreases-read_formula : goal.decreases-read_formula
decreases-read_formula l = l.start.left
