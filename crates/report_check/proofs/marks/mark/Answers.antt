-- `report_check::marks::mark` meets its contract.
use mathlib.Core.Path.{sym, ap, ◌∙◌}
use native.Mathlib.Nat.{mod-lt}
use native.Mathlib.Omega.{arith}
use Prim.Native.Nat.{◌/◌, ◌%◌}
use lib.Bits.{bit_or}
use lib.Dec.{lit<}
use lib.ListN.{get_or, set}
use lib.Seq.{set_out}
use Rattle.calendar.specs.Calendar.{with_bit}
use Rattle.calendar.proofs.Marking.{or_bit, one_shl}
use Rattle.report_check.specs.Marks.{marked}
use Rattle.report_check.proofs.marks.mark.Goals as goal

pub returns-then-word-marks : goal.returns-then-word-marks
unfolding marked
returns-then-word-marks c =
    let marks = c.args.marks.now in
    let tick = c.args.tick in
    let word = get_or marks (tick / 64) 0 in
    ap (set marks (tick / 64)) (ap (bit_or word) (one_shl (tick % 64) (mod-lt tick (lit< tt))) ∙ or_bit word (tick % 64))

pub returns-else-word-marks : goal.returns-else-word-marks
unfolding marked
returns-else-word-marks c =
    let marks = c.args.marks.now in
    let tick = c.args.tick in
    sym (set_out marks (tick / 64) (with_bit (tick % 64) (get_or marks (tick / 64) 0)) (omega (arith, c.if-word-marks.false)))
