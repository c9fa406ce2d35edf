-- `calendar_questions::FlagWords::earliest` meets its contract: no tick passed is up.
use mathlib.Core.Path.{◌≡◌}
use Prim.Native.Nat.{◌-◌}
use Rattle.calendar.specs.Search.{earliest}
use Rattle.calendar_questions.specs.Parts.{up_of}
use Rattle.calendar_questions.proofs.flag_words.FlagWords.earliest.Given as goal

abbrev pub invariant-loop-q : goal.invariant-loop-q
invariant-loop-q l = earliest (up_of l.self) l.first (l.end - l.first) ≡ earliest (up_of l.self) l.q (l.end - l.q)

abbrev pub decreases-loop-q : goal.decreases-loop-q
decreases-loop-q l = l.end - l.q
