-- `text_to_body::cursor::Work::end_first` meets its contract.
use Rattle.text_to_body.proofs.Endings.{unjoined_arm, joint_arm}
use mathlib.Core.Path.{◌≡◌, refl, ap, ◌∙◌}
use native.Mathlib.Omega.{arith}
use Prim.Native.Nat.{ℕ, ◌-◌, ◌≤◌}
use lib.ListN.{length, length-set, set}
use Rattle.text_to_body.proofs.cursor.Work.end_first.Goals as goal

pub returns-in_err-end : goal.returns-in_err-end
returns-in_err-end c =
    let a = c.args in
    let w = a.self.now in
    let pre = c.requires in
    rw c.from_residual.ensures (
    record {
      same_text = refl;
      same_room = refl;
      goes = unjoined_arm w.text.now w.frames w.names w.bytes a.cursor pre.1 pre.0 (a.cursor.opened - 1) (omega (arith, pre.2)) a.at pre.3 c.in_err-end.ensures;
    }
    )

pub returns : goal.returns
returns c =
    let a = c.args in
    let w = a.self.now in
    let pre = c.requires in
    let room : a.cursor.opened ≤ length w.frames = omega (arith, pre.1.frames_fit, pre.1.place, w.short) in
    let stored : c.put.new.out ≡ set w.bytes a.at c.joint_code-code.result = c.put.ensures ∙ ap (λ (k : ℕ). set w.bytes k c.joint_code-code.result) c.from.ensures in
    record {
      same_text = refl;
      same_room = ap length stored ∙ length-set w.bytes a.at c.joint_code-code.result;
      goes = joint_arm w.text.now w.frames w.names w.bytes a.cursor pre.1 pre.0 (a.cursor.opened - 1) (omega (arith, pre.2)) a.at pre.3 c.in_ok-end.end c.in_ok-end.ensures room c.joint_code-code.result c.joint_code-code.ensures c.put.new.out stored;
    }
