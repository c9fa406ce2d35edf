-- `calendar_questions::FlagWords::tally_runs` meets its contract: the runs passed, and those still to come, make the count.
use mathlib.Core.Path.{◌≡◌, sym, ap₂, ◌∙◌}
use mathlib.Core.List.{List}
use Prim.Native.Nat.{ℕ, ◌+◌, ◌-◌, ◌*◌, ◌^◌, ◌≤◌, ◌<◌}
use native.Mathlib.Omega.{arith}
use Rattle.std.specs.Int.Count.{ones}
use Rattle.calendar.specs.Search.{tally}
use Rattle.calendar.specs.Calendar.{kept, run_word, up_at}
use Rattle.calendar_questions.proofs.Searching.{tally_turn, tally_le, tally_none}
use Rattle.calendar_questions.proofs.Runs.{whole_shown}
use borrow.Author.Rules.{rules}
use Rattle.calendar_questions.proofs.flag_words.FlagWords.tally_runs.Goals as goal

-- the ticks still to come are the s of this run and the rest
turned : (ws : List ℕ) (k run m s end : ℕ) → m < 2 ^ 64 → m ≡ run_word ws k (64 * run) → s ≡ ones m → run + 1 ≤ end
    → tally (up_at ws k) (64 * run) (64 * end - 64 * run) ≡ s + tally (up_at ws k) (64 * (run + 1)) (64 * end - 64 * (run + 1))
turned ws k run m s end h e o l =
    tally_turn (up_at ws k) (64 * run) 64 m (whole_shown ws k run m h e) (64 * end) (omega arith)
    ∙ ap₂ (λ (x y : ℕ). x + tally (up_at ws k) y (64 * end - y)) (sym o) (omega arith)

pub overflow_add-sum : goal.overflow_add-sum
unfolding kept
overflow_add-sum c =
    let f = up_at c.args.self.now.words.now c.args.self.now.flag in
    let t = turned c.args.self.now.words.now c.args.self.now.flag c.loop-run.run c.run_word.result c.from-sum.result c.args.end (search rules) c.run_word.ensures c.from-sum.ensures (omega arith) in
    record { fits = omega (arith, t, tally_le f (64 * c.args.first) (64 * c.args.end - 64 * c.args.first)) }

pub loop-run-preserved : goal.loop-run-preserved
loop-run-preserved c =
    let t = turned c.args.self.now.words.now c.args.self.now.flag c.loop-run.run c.run_word.result c.from-sum.result c.args.end (search rules) c.run_word.ensures c.from-sum.ensures (omega arith) in
    omega (arith, t)

pub returns : goal.returns
returns c =
    omega (arith, tally_none (up_at c.args.self.now.words.now c.args.self.now.flag) (64 * c.loop-run.run) (64 * c.args.end) (omega arith))
