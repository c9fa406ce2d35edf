-- `figures::measure::measure_rule` meets its contract.
use Rattle.figures.proofs.measure.measure_rule.Goals as goal

pub returns : goal.returns
returns c = rw (c.of_rule.ensures.tick, c.of_rule.ensures.depth) at c.measure_at.ensures.promise
