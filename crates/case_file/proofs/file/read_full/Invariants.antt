-- `case_file::read_full` meets its contract: what was read fits the buffer, which keeps its length.
use Rattle.std.proofs.Common.{◌≡◌, ◌≤◌, length}
use Rattle.case_file.proofs.file.read_full.Given as goal

abbrev pub invariant-loop : goal.invariant-loop
invariant-loop g l = (l.count ≤ length l.buf) × (length l.buf ≡ length l.initial.buf)
