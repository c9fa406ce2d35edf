-- `state_bytes::state::load` meets its contract.
use Rattle.std.proofs.Common.{refl}
use Rattle.state_bytes.specs.States.{loaded}
use Rattle.state_bytes.proofs.state.load.Goals as goal

pub returns-clause-value : goal.returns-clause-value
unfolding loaded
returns-clause-value c = rw (c.load_body.ensures, c.number_at.ensures, c.number_at-2.ensures, c.next_tick.ensures.value, c.number_at-3.ensures) refl
