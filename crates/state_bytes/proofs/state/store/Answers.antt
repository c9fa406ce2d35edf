-- `state_bytes::state::store` meets its contract: the body and the four numbers after it fill the bytes.
use Rattle.std.proofs.Common.{◌≡◌, ℕ, List, ◌++◌, length, drop, sym, ap, ◌∙◌, rules}
use mathlib.Core.Path.{ap₂}
use lib.Seq.{take-length}
use Rattle.state_bytes.proofs.States.{whole_stored}
use Rattle.state_bytes.proofs.state.store.Goals as goal

pub returns : goal.returns
returns c =
    let body = c.args.state.body in
    let bytes = c.args.bytes.now in
    let r : length body ≡ 512 = search rules in
    let n : length bytes ≡ 544 = search rules in
    whole_stored bytes c.args.state _ c.put_number.new.out c.put_number-2.new.out c.put_number-3.new.out c.put_number-4.new.out n r
    (ap₂ (λ (x y : List ℕ). x ++ y) (c.copy_from_slice.ensures.after ∙ sym (take-length body)) (ap (λ (k : ℕ). drop k bytes) (sym r)))
    c.put_number.ensures c.put_number-2.ensures c.put_number-3.ensures c.put_number-4.ensures
