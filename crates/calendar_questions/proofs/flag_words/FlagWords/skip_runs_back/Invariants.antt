-- `calendar_questions::FlagWords::skip_runs_back` meets its contract: the runs passed are quiet.
use Prim.Native.Nat.{◌*◌, ◌≤◌}
use Rattle.calendar_questions.specs.Parts.{up_of}
use Rattle.calendar_questions.specs.Parts.{Quiet}
use Rattle.calendar_questions.proofs.flag_words.FlagWords.skip_runs_back.Given as goal

abbrev pub invariant-loop-run : goal.invariant-loop-run
invariant-loop-run l = (l.first ≤ l.run) × (l.run ≤ l.end) × Quiet (up_of l.self) (64 * l.run) (64 * l.end)
