-- `state_bytes::state::store_progress` meets its contract.
use mathlib.Core.Path.{◌≡◌}
use lib.ListN.{length}
use Rattle.state_bytes.proofs.States.{progress_stored}
use borrow.Author.Rules.{rules}
use Rattle.state_bytes.proofs.state.store_progress.Goals as goal

pub returns-clause-state_after : goal.returns-clause-state_after
returns-clause-state_after c =
    let n : length c.args.state.now ≡ 544 = search rules in
    progress_stored c.args.state.now c.put_number.new.out c.put_number-2.new.out c.args.next c.args.live n c.put_number.ensures c.put_number-2.ensures
