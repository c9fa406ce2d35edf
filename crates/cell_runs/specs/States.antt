-- The states that a step and a batch start from and leave.
use Rattle.std.specs.Prelude.{ℕ, ◌+◌}
use Rattle.demand.specs.Contract.{State, Taken, Counts, state_at, next_state}

-- A step from this state that took its tick and reported so many ticks.
abbrev pub taken_from : State → ℕ → ℕ → Taken
taken_from state reported live = record { reported = reported; live_count = live; state = next_state state live }

-- A batch from this state that took so many flags.
abbrev pub counts_from : State → ℕ → ℕ → ℕ → Counts
counts_from state taken pairs live = record { taken = taken; pairs = pairs; state = state_at state.body_bytes state.opened (state.next + taken) live }
