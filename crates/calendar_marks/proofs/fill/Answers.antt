-- `calendar_marks::fill` meets its contract: it ends where no byte is left or the next tick is not kept.
use Rattle.std.proofs.Common.{arith, inl, inr}
use Rattle.calendar_marks.proofs.Filling.{left_less, no_byte, no_tick}
use Rattle.calendar_marks.proofs.fill.Goals as goal

pub mark_run-requires : goal.mark_run-requires
mark_run-requires c = omega (arith, c.in-Some.ensures.steps.0.1.0, c.in-Some.ensures.steps.0.1.1, c.loop-next.invariant.2.stop)

pub loop-next-preserved : goal.loop-next-preserved
loop-next-preserved c =
    let s = c.in-Some.ensures.steps in (
      (tt, tt),
      tt,
      left_less _ _ _ _ _ _ _ c.loop-next.invariant.2 c.mark_run.new.words c.in-Some.flags.now _ _ _
          (omega (arith, s.0.1.0)) s.1 (rw (s.0.1.1) at c.mark_run.ensures) s.0.1.2 s.0.0,
    )

pub returns : goal.returns
returns c =
    elim c.in-None.ensures.steps [
      | inl w ↦ no_tick _ _ _ _ _ _ _ c.loop-next.invariant.2 (omega (arith, w.1))
      | inr w ↦ no_byte _ _ _ _ _ _ _ c.loop-next.invariant.2 w.1.0
    ]
