-- `calendar_questions::FlagWords::latest` meets its contract: no tick passed is up.
use mathlib.Core.Path.{◌≡◌, sym, ap, ◌∙◌, subst}
use mathlib.Core.Bool.{Bool}
use Prim.Native.Nat.{ℕ, ◌+◌, ◌-◌, ◌*◌, ◌/◌, ◌<◌, ◌≤◌}
use native.Mathlib.Omega.{arith}
use Rattle.calendar.specs.Search.{latest}
use Rattle.calendar_questions.specs.Parts.{Shown, Quiet}
use Rattle.calendar.specs.Calendar.{up_at}
use Rattle.std.specs.Prelude.{Some}
use Rattle.calendar_questions.proofs.Searching.{quiet_shown, latest_found, latest_skip, latest_none, leading_within}
use Rattle.calendar_questions.proofs.flag_words.FlagWords.latest.Goals as goal

-- none of a turn's d last ticks before `after` is up
turned : (f : ℕ → Bool) (first end after d m : ℕ) → latest f first (end - first) ≡ latest f first (after - first) → first + d ≤ after
    → Shown f (after - d) d m → m ≡ 0 → latest f first (end - first) ≡ latest f first (after - d - first)
turned f first end after d m i l s z =
    let e : after - d + d ≡ after = omega arith in
    i ∙ latest_skip f first (after - d) after (omega arith) (omega arith) (subst (Quiet f (after - d)) e (quiet_shown f (after - d) d m s z))

pub overflow_add-result : goal.overflow_add-result
overflow_add-result c =
    let f = up_at c.args.self.now.words.now c.args.self.now.flag in
    let d = c.piece_before-count.result in
    let q = c.loop-after.after - d in
    let p : 0 < c.shown-word.result = omega arith in
    record {
      fits = omega (
        arith,
        c.from.ensures,
        leading_within f q d c.shown-word.result c.shown-word.ensures (omega arith) p,
      );
    }

pub returns-then-word-ne0 : goal.returns-then-word-ne0
returns-then-word-ne0 c =
    let f = up_at c.args.self.now.words.now c.args.self.now.flag in
    let first = c.args.first in
    let d = c.piece_before-count.result in
    let after = c.loop-after.after in
    let p : 0 < c.shown-word.result = omega arith in
    let e : after ≡ after - d + d = omega arith in
    ap (λ (z : ℕ). Some (after - d + z)) c.from.ensures
    ∙ sym
    (c.loop-after.invariant.1 ∙ ap (λ (x : ℕ). latest f first (x - first)) e
    ∙ latest_found f (after - d) d c.shown-word.result c.shown-word.ensures (omega arith) p first (omega arith))

pub returns-then-bit-ne0 : goal.returns-then-bit-ne0
unfolding latest
returns-then-bit-ne0 c =
    let f = up_at c.args.self.now.words.now c.args.self.now.flag in
    let d = c.piece_before-count.result in
    sym (turned f c.args.first c.args.end c.loop-after.after d c.shown-word.result c.loop-after.invariant.1 (omega arith) c.shown-word.ensures (omega arith)
    ∙ latest_none f c.args.first (c.loop-after.after - d) (omega arith))

pub loop-after-preserved : goal.loop-after-preserved
loop-after-preserved c =
    let f = up_at c.args.self.now.words.now c.args.self.now.flag in
    let first = c.args.first in
    let d = c.piece_before-count.result in
    let q = c.loop-after.after - d in
    let r = c.skip_runs_back-after.result in
    let e : 64 * (q / 64) ≡ q = omega arith in (
      omega arith,
      turned f first c.args.end c.loop-after.after d c.shown-word.result c.loop-after.invariant.1 (omega arith) c.shown-word.ensures (omega arith)
          ∙ latest_skip f first (64 * r) q (omega arith) (omega arith) (subst (λ (x : ℕ). Quiet f (64 * r) x) e c.skip_runs_back-after.ensures.2),
    )

pub returns : goal.returns
unfolding latest
returns c =
    sym (c.loop-after.invariant.1 ∙ latest_none (up_at c.args.self.now.words.now c.args.self.now.flag) c.args.first c.loop-after.after (omega arith))
