-- `calendar_questions::FlagWords::earliest` meets its contract: no tick passed is up.
use mathlib.Core.Path.{◌≡◌, sym, ap, ◌∙◌, subst}
use mathlib.Core.Bool.{Bool}
use Prim.Native.Nat.{ℕ, ◌+◌, ◌-◌, ◌*◌, ◌/◌, ◌≤◌, ◌<◌}
use native.Mathlib.Omega.{arith}
use Rattle.calendar.specs.Search.{earliest}
use Rattle.calendar_questions.specs.Parts.{Shown, Quiet}
use Rattle.calendar.specs.Calendar.{up_at}
use Rattle.std.specs.Prelude.{Some}
use Rattle.calendar_questions.proofs.Searching.{quiet_shown, earliest_found, earliest_skip, earliest_none, trailing_within}
use Rattle.calendar_questions.proofs.flag_words.FlagWords.earliest.Goals as goal

-- none of a turn's d ticks from q on is up
turned : (f : ℕ → Bool) (first end q d m : ℕ) → earliest f first (end - first) ≡ earliest f q (end - q) → q + d ≤ end → Shown f q d m → m ≡ 0
    → earliest f first (end - first) ≡ earliest f (q + d) (end - (q + d))
turned f first end q d m i l s z = i ∙ earliest_skip f q (q + d) end (omega arith) l (quiet_shown f q d m s z)

pub overflow_add-result : goal.overflow_add-result
overflow_add-result c =
    let f = up_at c.args.self.now.words.now c.args.self.now.flag in
    let p : 0 < c.shown-word.result = omega arith in
    record {
      fits = omega (
        arith,
        c.from.ensures,
        trailing_within f c.loop-q.q c.piece-count.result c.shown-word.result c.shown-word.ensures (omega arith) p,
      );
    }

pub returns-then-word-ne0 : goal.returns-then-word-ne0
returns-then-word-ne0 c =
    let f = up_at c.args.self.now.words.now c.args.self.now.flag in
    let q = c.loop-q.q in
    let p : 0 < c.shown-word.result = omega arith in
    ap (λ (z : ℕ). Some (q + z)) c.from.ensures
    ∙ sym
    (c.loop-q.invariant
    ∙ earliest_found f q c.piece-count.result c.shown-word.result c.shown-word.ensures (omega arith) p c.args.end (omega arith))

pub returns-then-bit-ne0 : goal.returns-then-bit-ne0
unfolding earliest
returns-then-bit-ne0 c =
    let f = up_at c.args.self.now.words.now c.args.self.now.flag in
    let q = c.loop-q.q + c.piece-count.result in
    sym (turned f c.args.first c.args.end c.loop-q.q c.piece-count.result c.shown-word.result c.loop-q.invariant (omega arith) c.shown-word.ensures (omega arith)
    ∙ earliest_none f q c.args.end (omega arith))

pub loop-q-preserved : goal.loop-q-preserved
loop-q-preserved c =
    let f = up_at c.args.self.now.words.now c.args.self.now.flag in
    let q = c.loop-q.q + c.piece-count.result in
    let r = c.skip_runs-q.result in
    let e : 64 * (q / 64) ≡ q = omega arith in
    turned f c.args.first c.args.end c.loop-q.q c.piece-count.result c.shown-word.result c.loop-q.invariant (omega arith) c.shown-word.ensures (omega arith)
    ∙ earliest_skip f q (64 * r) c.args.end (omega arith) (omega arith) (subst (λ (x : ℕ). Quiet f x (64 * r)) e c.skip_runs-q.ensures.2)

pub returns : goal.returns
unfolding earliest
returns c =
    sym (c.loop-q.invariant ∙ earliest_none (up_at c.args.self.now.words.now c.args.self.now.flag) c.loop-q.q c.args.end (omega arith))
