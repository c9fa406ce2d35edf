-- `calendar_marks::fill` meets its contract: it ends where no byte is left or the next tick is not kept.
use Rattle.calendar_marks.proofs.Filling.{Left}
use Rattle.calendar_marks.proofs.fill.Given as goal

abbrev pub invariant-loop-next : goal.invariant-loop-next
invariant-loop-next l =
    (goal.iterator-loop-next).can_next l.next-iterator × (goal.iterator-loop-next).is_finite l.next-iterator
    × Left l.initial.words l.tick l.bytes l.words l.next-iterator.a.start l.next-iterator.a.end l.next-iterator.b.rest.now
