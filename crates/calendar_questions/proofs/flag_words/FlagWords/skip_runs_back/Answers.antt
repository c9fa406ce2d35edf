-- `calendar_questions::FlagWords::skip_runs_back` meets its contract: the runs passed are quiet.
use mathlib.Core.Path.{◌≡◌, subst}
use Prim.Native.Nat.{ℕ, ◌+◌, ◌-◌, ◌*◌}
use native.Mathlib.Omega.{arith}
use Rattle.calendar.specs.Calendar.{up_at}
use Rattle.calendar_questions.specs.Parts.{Quiet}
use Rattle.calendar_questions.proofs.Searching.{quiet_none, quiet_join}
use Rattle.calendar_questions.proofs.Runs.{quiet_run}
use Rattle.calendar_questions.proofs.flag_words.FlagWords.skip_runs_back.Goals as goal

pub loop-run-init : goal.loop-run-init
loop-run-init c = (omega (arith, c.requires.1), omega arith, quiet_none (up_at c.args.self.now.words.now c.args.self.now.flag) (64 * c.args.end))

pub loop-run-preserved : goal.loop-run-preserved
loop-run-preserved c =
    let ws = c.args.self.now.words.now in
    let k = c.args.self.now.flag in
    let run = c.loop-run.run in
    let e : run - 1 + 1 ≡ run = omega arith in (
      omega arith,
      omega arith,
      quiet_join (up_at ws k) (64 * (run - 1)) (64 * run) (64 * c.args.end)
          (subst (λ (x : ℕ). Quiet (up_at ws k) (64 * (run - 1)) (64 * x)) e
          (quiet_run ws k (run - 1) c.run_word.result c.if-run_word-ne0.false c.run_word.ensures))
          c.loop-run.invariant.2,
    )
