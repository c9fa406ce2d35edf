-- `calendar_questions::FlagWords::skip_runs` meets its contract: the runs passed are quiet.
use Prim.Native.Nat.{◌+◌, ◌*◌}
use native.Mathlib.Omega.{arith}
use Rattle.calendar.specs.Calendar.{up_at}
use Rattle.calendar_questions.proofs.Searching.{quiet_none, quiet_join}
use Rattle.calendar_questions.proofs.Runs.{quiet_run}
use Rattle.calendar_questions.proofs.flag_words.FlagWords.skip_runs.Goals as goal

pub loop-run-init : goal.loop-run-init
loop-run-init c = (omega arith, omega (arith, c.requires.1), quiet_none (up_at c.args.self.now.words.now c.args.self.now.flag) (64 * c.args.first))

pub loop-run-preserved : goal.loop-run-preserved
loop-run-preserved c =
    let ws = c.args.self.now.words.now in
    let k = c.args.self.now.flag in
    let run = c.loop-run.run in (
      omega arith,
      omega arith,
      quiet_join (up_at ws k) (64 * c.args.first) (64 * run) (64 * (run + 1)) c.loop-run.invariant.2
          (quiet_run ws k run c.run_word.result c.if-run_word-ne0.false c.run_word.ensures),
    )
