-- Demand 3 of the C functions: one theorem about every list of calls of sw_step and sw_steps after a call of sw_open (crates/demand/specs/Demand.antt states
-- it; docs/DEMAND-3.md walks through it). Assumes nothing.
use Rattle.demand.specs.Demand.{Demanded}
use Rattle.demand.proofs.Theorem.{demand_3}
use Rattle.cell_runs.specs.Moves.{Stands}
use Rattle.state_bytes.specs.States.{in_bytes}

-- The same as of the engine, of states that are carried as bytes: what it asks of an opening, a step and a batch is, word for word, what the contracts of
-- sw_open, sw_step and sw_steps say of every call.
pub theorem : Demanded Stands in_bytes
theorem = demand_3 Stands in_bytes
