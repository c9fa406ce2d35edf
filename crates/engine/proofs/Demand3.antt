-- Demand 3 of this engine: one theorem about every list of calls from an opening (crates/demand/specs/Demand.antt states it, docs/DEMAND-3.md walks through
-- it). Assumes nothing.
use Rattle.demand.specs.Demand.{Demanded}
use Rattle.demand.proofs.Theorem.{demand_3}
use Rattle.cell_runs.specs.Moves.{Stands}
use Rattle.engine.specs.States.{by_value}

-- Exactly the acceptable openings are accepted, and whatever list of calls follows one: every report is exactly the ticks that the meaning over the
-- whole stream makes false at its step, every live count the number of ticks still open, every tick p is decided by step p + delay, and a step is
-- refused exactly when document 01 says, and then changes nothing; the last also where the last h flags were overwritten. What the theorem asks of an
-- opening, a step and a batch is, word for word, what the contracts of `open`, `step` and `steps` say of every call.
pub theorem : Demanded Stands by_value
theorem = demand_3 Stands by_value
