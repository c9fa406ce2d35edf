-- Demand 3 of the C functions that keep a calendar: one theorem about every list of calls of sw_calendar_step and sw_calendar_steps after a call of sw_calendar_open, and that
-- the words agree with the stream throughout it (crates/demand/specs/CalendarDemand.antt).
use Rattle.demand.specs.Demand.{Demanded}
use Rattle.demand.specs.CalendarDemand.{with_calendar, CalendarKept}
use Rattle.demand.proofs.Theorem.{demand_3}
use Rattle.demand.proofs.CalendarTheorem.{calendar_kept}
use Rattle.cell_runs.specs.Moves.{Stands}
use Rattle.state_bytes.specs.States.{in_bytes}

pub theorem : Demanded Stands (with_calendar in_bytes)
theorem = demand_3 Stands (with_calendar in_bytes)

pub words_agree : CalendarKept Stands in_bytes
words_agree = calendar_kept Stands in_bytes
