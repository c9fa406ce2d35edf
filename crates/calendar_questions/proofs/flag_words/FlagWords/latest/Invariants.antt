-- `calendar_questions::FlagWords::latest` meets its contract: no tick passed is up.
use mathlib.Core.Path.{◌≡◌}
use Prim.Native.Nat.{◌-◌, ◌≤◌}
use Rattle.calendar.specs.Search.{latest}
use Rattle.calendar_questions.specs.Parts.{up_of}
use Rattle.calendar_questions.proofs.flag_words.FlagWords.latest.Given as goal

abbrev pub invariant-loop-after : goal.invariant-loop-after
invariant-loop-after l = (l.after ≤ l.end) × (latest (up_of l.self) l.first (l.end - l.first) ≡ latest (up_of l.self) l.first (l.after - l.first))

abbrev pub decreases-loop-after : goal.decreases-loop-after
decreases-loop-after l = l.after
