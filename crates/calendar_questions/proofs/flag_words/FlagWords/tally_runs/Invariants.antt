-- `calendar_questions::FlagWords::tally_runs` meets its contract: the runs passed, and those still to come, make the count.
use mathlib.Core.Path.{◌≡◌}
use Prim.Native.Nat.{◌+◌, ◌-◌, ◌*◌}
use Rattle.calendar.specs.Search.{tally}
use Rattle.calendar_questions.specs.Parts.{up_of}
use Rattle.calendar_questions.proofs.flag_words.FlagWords.tally_runs.Given as goal

abbrev pub invariant-loop-run : goal.invariant-loop-run
invariant-loop-run l =
    l.sum + tally (up_of l.self) (64 * l.run) (64 * l.end - 64 * l.run) ≡ tally (up_of l.self) (64 * l.first) (64 * l.end - 64 * l.first)
