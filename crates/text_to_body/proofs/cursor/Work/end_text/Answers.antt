-- `text_to_body::cursor::Work::end_text` meets its contract.
use Rattle.text_to_body.proofs.Endings.{early_arm, whole_arm}
use mathlib.Core.Path.{refl}
use Rattle.text_to_body.proofs.cursor.Work.end_text.Goals as goal

pub returns-then-cursor-self : goal.returns-then-cursor-self
returns-then-cursor-self c =
    let a = c.args in
    let w = a.self.now in
    let pre = c.requires in
    record { same_text = refl; same_room = refl; goes = early_arm w.text.now w.frames w.names w.bytes a.cursor pre.1 pre.0 pre.2 c.if-cursor-self.true }

pub returns : goal.returns
returns c =
    let a = c.args in
    let w = a.self.now in
    let pre = c.requires in
    record { same_text = refl; same_room = refl; goes = whole_arm w.text.now w.frames w.names w.bytes a.cursor pre.1 pre.0 pre.2 c.if-cursor-self.false }
