-- `instances::batch::move_flags` meets its contract.
use Rattle.cell_runs.proofs.Batches.{Under}
use Rattle.instances.proofs.batch.move_flags.Given as goal

abbrev pub invariant-loop-taken : goal.invariant-loop-taken
invariant-loop-taken l =
    Under l.rule.nodes.now l.rule.figures l.tick l.live l.flags l.initial.history l.initial.cells l.initial.report l.history l.cells l.report l.taken l.pairs l.still_open
