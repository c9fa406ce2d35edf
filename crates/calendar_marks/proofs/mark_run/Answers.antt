-- `calendar_marks::mark_run` meets its contract: the words before the run stay, those of the run are set one after another.
use mathlib.Core.Path.{◌≡◌, sym, ap, ◌∙◌}
use Prim.Native.Nat.{ℕ, ◌+◌, ◌*◌, ◌/◌, ◌%◌}
use native.Mathlib.Omega.{arith}
use lib.ListN.{get_or}
use Rattle.calendar.specs.Calendar.{kept, marked_word, flagged}
use Rattle.calendar.proofs.Each.{marked_in, marked_out}
use Rattle.calendar_marks.proofs.Storing.{done_none, done_more, done_all}
use Rattle.calendar_marks.proofs.mark_run.Goals as goal

pub loop-k-init : goal.loop-k-init
loop-k-init c = (
  omega arith,
  done_none (marked_word c.args.tick c.args.flags) c.args.words.now (8 * (c.args.tick / 64) + 0)
      (λ j w l. marked_out c.args.tick c.args.flags j w (λ e. omega arith)),
)

pub bounds-words-run : goal.bounds-words-run
unfolding kept
bounds-words-run c = omega (arith, c.loop-k.invariant.1.same)

pub bounds-words-run-in-loop-k : goal.bounds-words-run-in-loop-k
unfolding kept
bounds-words-run-in-loop-k c = omega (arith, c.loop-k.invariant.1.same)

pub loop-k-preserved : goal.loop-k-preserved
unfolding kept
loop-k-preserved c =
    let t = c.args.tick in
    let b = c.args.flags in
    let ws = c.loop-k.words in
    let k = c.loop-k.k in
    let at = 8 * (t / 64) + k in
    let e : at % 8 ≡ k = omega arith in (
      omega arith,
      done_more (marked_word t b) c.args.words.now at ws c.with_flag.result c.loop-k.invariant.1 (omega arith)
          (c.with_flag.ensures ∙ ap (λ (x : ℕ). flagged (t % 64) b x (get_or ws at 0)) (sym e)
          ∙ sym (marked_in t b at (get_or ws at 0) (omega arith))) (8 * (t / 64) + (k + 1)) (omega arith),
    )

pub returns : goal.returns
returns c =
    let t = c.args.tick in
    done_all (marked_word t c.args.flags) c.args.words.now (8 * (t / 64) + c.loop-k.k) c.loop-k.words c.loop-k.invariant.1
    (λ j w l. marked_out t c.args.flags j w (λ e. omega arith))
