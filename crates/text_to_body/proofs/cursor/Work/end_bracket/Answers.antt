-- `text_to_body::cursor::Work::end_bracket` meets its contract.
use Rattle.text_to_body.proofs.Endings.{unclosed_arm, close_arm}
use mathlib.Core.Path.{refl, sym, ◌∙◌}
use native.Mathlib.Omega.{arith}
use Prim.Native.Nat.{◌-◌}
use Rattle.text_to_body.proofs.cursor.Work.end_bracket.Goals as goal

pub returns-then-not-starts_at : goal.returns-then-not-starts_at
returns-then-not-starts_at c =
    let a = c.args in
    let w = a.self.now in
    let pre = c.requires in
    let t = sym c.starts_at.ensures ∙ c.if-not-starts_at.true in
    record { same_text = refl; same_room = refl; goes = unclosed_arm w.text.now w.frames w.names w.bytes a.cursor pre.1 pre.0 (a.cursor.opened - 1) (omega (arith, pre.2)) pre.3 t }

pub returns : goal.returns
returns c =
    let a = c.args in
    let w = a.self.now in
    let pre = c.requires in
    let t = sym c.starts_at.ensures ∙ c.if-not-starts_at.false in
    record { same_text = refl; same_room = refl; goes = close_arm w.text.now w.frames w.names w.bytes a.cursor pre.1 pre.0 (a.cursor.opened - 1) (omega (arith, pre.2)) pre.3 t }
