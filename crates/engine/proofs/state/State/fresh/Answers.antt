-- `engine::state::State::fresh` meets its contract: the body lies at the front of 512 bytes that are 0.
use Rattle.std.proofs.Common.{ℕ, List, ◌++◌, length, drop, sym, ap, ◌∙◌}
use lib.ListN.{replicate}
use lib.Seq.{take-length}
use Rattle.engine.proofs.States.{copied_is}
use Rattle.engine.proofs.state.State.fresh.Goals as goal

pub returns : goal.returns
returns c =
    let body = c.args.body.now in
    copied_is body _ c.args.opened
    (ap (λ (front : List ℕ). front ++ drop (length body) (replicate 512 0)) (c.copy_from_slice.ensures.after ∙ sym (take-length body)))
