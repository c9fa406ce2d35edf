-- `sheet_writer::lengths_fit` meets its contract. The loop's invariant: what is left to find out of the lengths from `length-index` on decides all.
use Prim.Native.Nat.{◌≤◌, ◌*◌}
use mathlib.Core.Path.{◌≡◌}
use mathlib.Core.Bool.{◌&&◌}
use lib.Dec.{eqb}
use Rattle.sheet_writer.specs.Writing.{total, lengths_fit}
use Rattle.sheet_writer.proofs.Stores.{rest_fits}
use Rattle.sheet_writer.proofs.lengths_fit.Given as goal

abbrev pub invariant-loop-length : goal.invariant-loop-length
invariant-loop-length l =
    (l.sum ≤ 512 * l.length-index) × (lengths_fit l.lengths && eqb (total l.lengths) l.size ≡ rest_fits l.sum l.length-index l.size l.lengths)
