-- `instances::head::leading_true` meets its contract: each turn moves the head on over one slot that holds true.
use Rattle.cell_runs.specs.Leading.{MovedOn}
use Rattle.instances.proofs.head.leading_true.Given as goal

abbrev pub invariant-loop-trues : goal.invariant-loop-trues
invariant-loop-trues l = MovedOn l.p l.size l.positions l.slots l.fn.head.leading l.fn.head.latest l.trues l.last
