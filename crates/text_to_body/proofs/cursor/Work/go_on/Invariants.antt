-- `text_to_body::cursor::Work::go_on` meets its contract.
use mathlib.Core.Path.{◌≡◌}
use lib.ListN.{length}
use Rattle.text_to_body.specs.Cursors.{answer_at, left, CursorFits}
use Rattle.text_to_body.proofs.cursor.Work.go_on.Given as goal

abbrev pub invariant-loop-cursor : goal.invariant-loop-cursor
invariant-loop-cursor l =
    (l.self.text.now ≡ l.initial.self.text.now)
    × (answer_at l.initial.self.text.now l.initial.self.frames l.initial.self.names l.initial.self.bytes l.initial.cursor ≡ answer_at l.self.text.now l.self.frames l.self.names l.self.bytes l.cursor)
    × (length l.self.bytes ≡ length l.initial.self.bytes)
    × CursorFits l.self.text.now l.cursor

abbrev pub decreases-loop-cursor : goal.decreases-loop-cursor
decreases-loop-cursor l = left l.self.text.now l.cursor
