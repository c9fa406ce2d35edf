-- `sheet::laid_out` meets its contract. The loop's invariant: what is left to find out of the entries from `index` on decides all.
--
use Prim.Native.Nat.{◌≤◌, ◌+◌, ◌*◌, ◌-◌}
use mathlib.Core.Path.{◌≡◌}
use Rattle.sheet.specs.Sheet.{laid_out}
use Rattle.sheet.proofs.reader.laid_out.Given as goal

abbrev pub invariant-loop-index : goal.invariant-loop-index
invariant-loop-index l =
    (l.at ≤ 1100 + 65536 * l.index) × (laid_out l.count l.sheet 0 (1 + 4 * l.count) ≡ laid_out (l.count - l.index) l.sheet l.index l.at)
