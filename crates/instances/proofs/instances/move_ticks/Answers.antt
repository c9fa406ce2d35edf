-- `instances::move_ticks` meets its contract: each turn moves one tick more, in its own slot.
use Prim.Native.Nat.{ℕ, ◌+◌, ◌*◌, ◌-◌}
use mathlib.Core.Path.{◌≡◌, refl, sym, ap, subst, ◌∙◌}
use mathlib.Core.Bool.{cond}
use native.Mathlib.Omega.{arith}
use lib.Dec.{eqb}
use lib.ListN.{length, take, drop}
use borrow.Rule.Slice.PartMut.{put_mid}
use Rattle.cell_runs.specs.Tree.{tree_at}
use Rattle.cell_runs.specs.Instances.{InstanceMoved}
use Rattle.cell_runs.proofs.Ticks.{MovedUntil, slot_next, until_none, until_more, until_all}
use Rattle.instances.proofs.instances.move_ticks.Goals as goal

pub loop-p-init : goal.loop-p-init
loop-p-init c =
    (until_none (tree_at c.args.left c.args.tick.now.nodes.now 0) c.args.slots.count c.args.slots.size c.args.tick.now.history.now c.args.tick.now.flag c.args.tick.now.t c.args.low c.args.table.now c.args.report.now c.requires.low_value, refl)

pub loop-p-preserved : goal.loop-p-preserved
loop-p-preserved c =
    let F = tree_at c.args.left c.args.tick.now.nodes.now 0 in
    let count = c.args.slots.count in
    let size = c.args.slots.size in
    let hist = c.args.tick.now.history.now in
    let b = c.args.tick.now.flag in
    let t = c.args.tick.now.t in
    let low = c.args.low in
    let table₀ = c.args.table.now in
    let report₀ = c.args.report.now in
    let now = c.loop-p in
    let moved = c.move_instance-outcome in
    let ys = moved.new.run in
    let wrote = c.report_if_false-reported in
    let one = c.one_if_open-live in
    let here = now.invariant.1 in (
      subst (λ (x : ℕ). MovedUntil F count size hist b t low table₀ report₀ (now.p + 1) wrote.result (now.live + one.result) (put_mid (x * size) (x * size + size - x * size) now.table ys) wrote.new.report) (sym here)
          (until_more F count size hist b t low table₀ report₀ c.requires.low_value c.requires.ticks_fit.some c.requires.ticks_fit.table c.requires.ticks_fit.report
          now.p now.reported now.live now.table now.report moved.result ys wrote.result one.result wrote.new.report (omega (arith, c.loop-p-test.true))
          (subst (λ (x : ℕ). length ys ≡ length (take (x * size + size - x * size) (drop (x * size) now.table))) here moved.auto.run) wrote.auto.report
          (subst (λ (x : ℕ). InstanceMoved F hist b t now.p (take (x * size + size - x * size) (drop (x * size) now.table)) moved.result ys) here moved.ensures) wrote.ensures.value wrote.ensures.report_after one.ensures now.invariant.0),
      c.next_slot-slot.ensures ∙ ap (λ (x : ℕ). cond (eqb (x + 1) count) 0 (x + 1)) here ∙ sym (slot_next count now.p c.requires.ticks_fit.some),
    )

pub returns-clause-ticks_moved : goal.returns-clause-ticks_moved
returns-clause-ticks_moved c =
    let now = c.loop-p in
    (until_all (tree_at c.args.left c.args.tick.now.nodes.now 0) c.args.slots.count c.args.slots.size c.args.tick.now.history.now c.args.tick.now.flag c.args.tick.now.t c.args.low c.args.table.now c.args.report.now
    c.requires.low_value c.requires.ticks_fit.some c.requires.ticks_fit.table c.requires.ticks_fit.report
    now.p now.reported now.live now.table now.report (omega (arith, c.loop-p-test.false)) now.invariant.0).0
