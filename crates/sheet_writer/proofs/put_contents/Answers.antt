-- `sheet_writer::put_contents` meets its contract. The loop's invariant: what is stored, and the entries still to come, are the table of contents.
use Prim.Native.Nat.{ℕ, ◌≤◌, ◌+◌, ◌*◌}
use mathlib.Core.Path.{◌≡◌, refl, ap, ◌∙◌}
use mathlib.Core.List.{List, ◌++◌, append-nil}
use native.Mathlib.Omega.{arith}
use lib.ListN.{length, set, length-set}
use lib.Seq.{take-suc-set, drop-set-lt}
use Rattle.sheet_writer.specs.Writing.{entry, entries, table_of_contents}
use Rattle.words.proofs.Splices.{length_splice}
use Rattle.sheet_writer.proofs.Stores.{length_most, entries_on, rest_on, entries_end, length_contents, front}
use Rattle.sheet_writer.proofs.put_contents.Goals as goal

pub loop-index-init : goal.loop-index-init
loop-index-init c =
    let a = c.args in
    let ls = a.lengths.now in (
      refl,
      refl,
      omega arith,
      ap (λ (t : List ℕ). t ++ entries (1 + 4 * length ls) ls) (take-suc-set a.out.now 0 (length ls) (omega arith)),
      refl,
    )

pub loop-index-preserved : goal.loop-index-preserved
loop-index-preserved c =
    let l = c.loop-index in
    let a = c.args in
    let ls = a.lengths.now in
    let s = length-set a.out.now 0 (length ls) in
    let room : 1 + 4 * l.index + 4 ≤ length l.out = omega arith in
    let more = c.loop-index-test.true in
    let e = c.from-length.ensures in
    let small = length_most ls c.requires.lengths_len_bound.1 l.index more in
    let p = c.put_entry.ensures in (
      refl,
      ap length p ∙ length_splice l.out (1 + 4 * l.index) (entry l.at c.from-length.result) room ∙ l.invariant.1,
      omega arith,
      rw (p, e) (entries_on l.out ls l.index l.at room more ∙ l.invariant.3),
      rw (p, e) (rest_on l.out ls l.index l.at room more (set a.out.now 0 (length ls)) l.invariant.4),
    )

pub returns : goal.returns
returns c =
    let l = c.loop-index in
    let a = c.args in
    let ls = a.lengths.now in
    let e : l.index ≡ length ls = omega arith in
    let t = rw (e, entries_end l.at ls, append-nil) at l.invariant.3 in
    let d = rw (e, drop-set-lt (1 + 4 * length ls) a.out.now 0 (length ls) (omega arith)) at l.invariant.4 in
    front (table_of_contents ls) l.out a.out.now (1 + 4 * length ls) t d (length_contents ls)
