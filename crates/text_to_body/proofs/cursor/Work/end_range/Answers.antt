-- `text_to_body::cursor::Work::end_range` meets its contract.
use Rattle.text_to_body.proofs.Endings.{range_over_arm}
use mathlib.Core.Path.{refl}
use native.Mathlib.Omega.{arith}
use Prim.Native.Nat.{◌-◌}
use Rattle.text_to_body.proofs.cursor.Work.end_range.Goals as goal

pub returns : goal.returns
returns c =
    let a = c.args in
    let w = a.self.now in
    let pre = c.requires in
    record {
      same_text = refl;
      same_room = refl;
      goes = range_over_arm w.text.now w.frames w.names w.bytes a.cursor pre.1 pre.0 (a.cursor.opened - 1) (omega (arith, pre.2)) pre.3 c.saturating_sub.result c.saturating_sub.ensures;
    }
