-- `engine::state::StateDefault::default` meets its contract: a state with an empty body.
use mathlib.Core.Path.{refl}
use mathlib.Core.List.{[]}
use lib.ListN.{replicate}
use Rattle.engine.proofs.States.{copied_is}
use Rattle.engine.proofs.state.StateDefault.default.Goals as goal

pub returns : goal.returns
returns c = copied_is [] (replicate 512 0) 0 refl
