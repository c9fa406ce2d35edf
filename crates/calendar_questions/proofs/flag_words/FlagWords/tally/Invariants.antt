-- `calendar_questions::FlagWords::tally` meets its contract: the ticks passed, and those still to come, make the count.
use mathlib.Core.Path.{◌≡◌}
use Prim.Native.Nat.{◌+◌, ◌-◌}
use Rattle.calendar.specs.Search.{tally}
use Rattle.calendar_questions.specs.Parts.{up_of}
use Rattle.calendar_questions.proofs.flag_words.FlagWords.tally.Given as goal

abbrev pub invariant-loop-q : goal.invariant-loop-q
invariant-loop-q l = l.sum + tally (up_of l.self) l.q (l.end - l.q) ≡ tally (up_of l.self) l.first (l.end - l.first)

abbrev pub decreases-loop-q : goal.decreases-loop-q
decreases-loop-q l = l.end - l.q
