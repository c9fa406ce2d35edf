-- `instances::marks::store_outcome` meets its contract: it writes the words that `mark` writes, in the same order.
use Rattle.cells.specs.Cells.{mark}
use Rattle.instances.proofs.marks.store_outcome.Goals as goal
use Rattle.instances.proofs.marks.store_outcome.Goals.{in-True, in-False}

pub returns-in-Open : goal.returns-in-Open
unfolding mark
returns-in-Open c = simp c.in-Open.is

pub returns-after-verdict : goal.returns-after-verdict
unfolding mark
returns-after-verdict c = elim c.match-verdict.branch [ in-True w ↦ simp (c.in-Decided.is, w.in-True.is, w.cell-is, c.elapsed.ensures) | in-False w ↦ simp (c.in-Decided.is, w.in-False.is, w.cell-is, c.elapsed.ensures) ]
