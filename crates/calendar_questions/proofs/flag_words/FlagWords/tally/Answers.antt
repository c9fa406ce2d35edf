-- `calendar_questions::FlagWords::tally` meets its contract: the ticks passed, and those still to come, make the count.
use mathlib.Core.Path.{◌≡◌, sym, ap, ◌∙◌}
use mathlib.Core.Bool.{Bool}
use Prim.Native.Nat.{ℕ, ◌+◌, ◌-◌, ◌*◌, ◌/◌, ◌%◌, ◌≤◌}
use native.Mathlib.Omega.{arith}
use Rattle.std.specs.Int.Count.{ones}
use Rattle.calendar.specs.Search.{tally}
use Rattle.calendar.specs.Calendar.{up_at}
use Rattle.calendar_questions.specs.Parts.{Shown}
use Rattle.calendar_questions.proofs.Searching.{tally_turn, tally_le, tally_none, tally_by_runs}
use Rattle.calendar_questions.proofs.flag_words.FlagWords.tally.Goals as goal

-- the ticks still to come are the s of this piece and the rest
turned : (f : ℕ → Bool) (q d m s end : ℕ) → Shown f q d m → s ≡ ones m → q + d ≤ end → tally f q (end - q) ≡ s + tally f (q + d) (end - (q + d))
turned f q d m s end w e l = tally_turn f q d m w end l ∙ ap (λ (x : ℕ). x + tally f (q + d) (end - (q + d))) (sym e)

-- and then the s of the whole runs and the rest
runs : (f : ℕ → Bool) (q s end : ℕ) → s ≡ tally f (64 * (q / 64)) (64 * (end / 64) - 64 * (q / 64)) → q ≤ end → q % 64 ≡ 0
    → tally f q (end - q) ≡ s + tally f (end - end % 64) (end - (end - end % 64))
runs f q s end e l z =
    tally_by_runs f q end l z ∙ ap (λ (x : ℕ). x + tally f (end - end % 64) (end - (end - end % 64))) (sym e)

pub overflow_add-sum : goal.overflow_add-sum
overflow_add-sum c =
    let f = up_at c.args.self.now.words.now c.args.self.now.flag in
    let t = turned f c.loop-q.q c.piece-count.result c.shown.result c.from-sum.result c.args.end c.shown.ensures c.from-sum.ensures (omega arith) in
    record { fits = omega (arith, t, tally_le f c.args.first (c.args.end - c.args.first)) }

pub returns-then-bit-ne0 : goal.returns-then-bit-ne0
returns-then-bit-ne0 c =
    let f = up_at c.args.self.now.words.now c.args.self.now.flag in
    let t = turned f c.loop-q.q c.piece-count.result c.shown.result c.from-sum.result c.args.end c.shown.ensures c.from-sum.ensures (omega arith) in
    omega (arith, t, tally_none f (c.loop-q.q + c.piece-count.result) c.args.end (omega arith))

pub overflow_add-sum-in-loop-q : goal.overflow_add-sum-in-loop-q
overflow_add-sum-in-loop-q c =
    let f = up_at c.args.self.now.words.now c.args.self.now.flag in
    let q = c.loop-q.q + c.piece-count.result in
    let t = turned f c.loop-q.q c.piece-count.result c.shown.result c.from-sum.result c.args.end c.shown.ensures c.from-sum.ensures (omega arith) in
    let r = runs f q c.tally_runs-sum.result c.args.end c.tally_runs-sum.ensures (omega arith) (omega arith) in
    record { fits = omega (arith, t, r, tally_le f c.args.first (c.args.end - c.args.first)) }

pub loop-q-preserved : goal.loop-q-preserved
loop-q-preserved c =
    let f = up_at c.args.self.now.words.now c.args.self.now.flag in
    let q = c.loop-q.q + c.piece-count.result in
    let t = turned f c.loop-q.q c.piece-count.result c.shown.result c.from-sum.result c.args.end c.shown.ensures c.from-sum.ensures (omega arith) in
    let r = runs f q c.tally_runs-sum.result c.args.end c.tally_runs-sum.ensures (omega arith) (omega arith) in
    omega (arith, t, r)

pub returns : goal.returns
returns c =
    omega (arith, tally_none (up_at c.args.self.now.words.now c.args.self.now.flag) c.loop-q.q c.args.end (omega arith))
