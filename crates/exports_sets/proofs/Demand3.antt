-- Demand 3 of the C functions on sets: one theorem about every list of calls of sw_set_step and sw_set_steps after a call of sw_set_open
-- (crates/demand/specs/SetDemand.antt states it; docs/DEMAND-3.md walks through it). Assumes nothing.
use Rattle.demand.specs.SetDemand.{SetDemanded}
use Rattle.demand.proofs.SetTheorem.{set_demand_3}
use Rattle.cell_runs.specs.Moves.{Stands}

-- What it asks of an opening, a step and a batch is, word for word, what the contracts of sw_set_open, sw_set_step and sw_set_steps say of every call, of
-- the running rules that their words hold.
pub theorem : SetDemanded Stands
theorem = set_demand_3 Stands
