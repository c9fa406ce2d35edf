-- `watch_run::Watch::take_chunk` is safe and ends: each turn takes at least one byte of those that are left.
use Rattle.std.proofs.Common.{length}
use Rattle.watch_run.proofs.watching.Watch.take_chunk.Given as goal

abbrev pub decreases-loop-left : goal.decreases-loop-left
decreases-loop-left g l = length l.left
