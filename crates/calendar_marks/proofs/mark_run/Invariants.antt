-- `calendar_marks::mark_run` meets its contract: the words before the run stay, those of the run are set one after another.
use Prim.Native.Nat.{◌+◌, ◌≤◌}
use Rattle.calendar.specs.Calendar.{marked_word}
use Rattle.calendar_marks.proofs.Storing.{Done}
use Rattle.calendar_marks.proofs.mark_run.Given as goal

abbrev pub invariant-loop-k : goal.invariant-loop-k
invariant-loop-k l = (l.k ≤ 8) × Done (marked_word l.tick l.flags) l.initial.words (l.run + l.k) l.words
