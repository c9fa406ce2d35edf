-- `watch_run::read_sheet` meets its contract: what was read fits the buffer, which keeps its length.
use Rattle.std.proofs.Common.{◌≡◌, ◌≤◌, ◌-◌, length}
use Rattle.watch_run.proofs.sheet_file.read_sheet.Given as goal

abbrev pub invariant-loop-count : goal.invariant-loop-count
invariant-loop-count g l = (l.count ≤ length l.buf) × (length l.buf ≡ length l.initial.buf)

abbrev pub decreases-loop-count : goal.decreases-loop-count
decreases-loop-count g l = length l.buf - l.count
