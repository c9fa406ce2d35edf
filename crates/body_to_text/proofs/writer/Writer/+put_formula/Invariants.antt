-- `body_to_text::writer::Writer::put_formula` ends: the formulas left fall from call to call.
use Rattle.body_to_text.proofs.writer.Writer.+put_formula.Given as goal

abbrev pub decreases-put_formula : goal.decreases-put_formula
decreases-put_formula l = l.place.left
