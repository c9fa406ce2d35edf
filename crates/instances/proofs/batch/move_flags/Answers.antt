-- `instances::batch::move_flags` meets its contract.
use Prim.Native.Nat.{◌*◌, ◌-◌}
use mathlib.Core.Path.{◌≡◌, refl}
use mathlib.Core.Logic.{inl, inr}
use native.Mathlib.Omega.{arith}
use lib.ListN.{length, take, drop}
use Rattle.cell_runs.proofs.Rules.{table_short}
use Rattle.cell_runs.proofs.Batches.{under_start, under_ends, under_all, next_fits, taken_words, under_more}
use Rattle.instances.proofs.batch.move_flags.Goals as goal

pub overflow_add-half : goal.overflow_add-half
overflow_add-half c =
    let short = (table_short c.args.rule.now.nodes.now c.args.rule.now.figures (length c.args.history.now) c.args.tick c.requires.state c.requires.table_of).0 in
    omega arith

pub loop-taken-init : goal.loop-taken-init
loop-taken-init c =
    under_start c.args.rule.now.nodes.now c.args.rule.now.figures c.args.tick c.args.live c.args.flags.now c.args.history.now c.args.cells.now c.args.report.now c.requires.low

pub overflow_mul-half : goal.overflow_mul-half
overflow_mul-half c =
    let l = c.loop-taken in
    let count = c.flags_left-count.ensures in
    let short = (table_short c.args.rule.now.nodes.now c.args.rule.now.figures (length c.args.history.now) c.args.tick c.requires.state c.requires.table_of).0 in
    omega arith

pub returns-then-report-at : goal.returns-then-report-at
returns-then-report-at c =
    let l = c.loop-taken in
    let count = c.flags_left-count.ensures in
    under_ends c.args.rule.now.nodes.now c.args.rule.now.figures c.args.tick c.args.live c.args.flags.now c.args.history.now c.args.cells.now c.args.report.now l.history l.cells l.report l.taken l.pairs l.still_open l.invariant (inr (inl (omega (arith, c.if-report-at.true, l.invariant.report_length, l.invariant.inside))))

pub move_pairs-moved-requires : goal.move_pairs-moved-requires
move_pairs-moved-requires c =
    let l = c.loop-taken in
    let count = c.flags_left-count.ensures in
    next_fits c.args.rule.now.nodes.now c.args.rule.now.figures c.args.tick c.args.live c.args.flags.now c.args.history.now c.args.cells.now c.args.report.now l.history l.cells l.report l.taken l.pairs l.still_open l.invariant
    (omega (arith, c.if-report-at.false, l.invariant.report_length, l.invariant.inside)) (omega (arith, count, c.loop-taken-test.true)) (omega (arith, count, c.loop-taken-test.true))
    (take (length l.report - 2 * l.pairs) (drop (2 * l.pairs) l.report)) refl c.requires

pub overflow_add-pairs : goal.overflow_add-pairs
overflow_add-pairs c =
    let l = c.loop-taken in
    let count = c.flags_left-count.ensures in
    let m = c.move_pairs-moved in
    let short = (table_short c.args.rule.now.nodes.now c.args.rule.now.figures (length c.args.history.now) c.args.tick c.requires.state c.requires.table_of).0 in
    let few = taken_words c.args.rule.now.nodes.now c.args.rule.now.figures c.args.tick c.args.live c.args.flags.now c.args.history.now c.args.cells.now c.args.report.now l.history l.cells l.report l.taken l.pairs l.still_open l.invariant
    (omega (arith, c.if-report-at.false, l.invariant.report_length, l.invariant.inside)) (omega (arith, count, c.loop-taken-test.true)) (omega (arith, count, c.loop-taken-test.true))
    (take (length l.report - 2 * l.pairs) (drop (2 * l.pairs) l.report)) refl c.requires m.result.reported m.result.live m.new.history m.new.cells m.new.report m.ensures in
    omega (arith, l.invariant.inside, l.invariant.report_length)

pub loop-taken-preserved : goal.loop-taken-preserved
loop-taken-preserved c =
    let l = c.loop-taken in
    let count = c.flags_left-count.ensures in
    let m = c.move_pairs-moved in
    under_more c.args.rule.now.nodes.now c.args.rule.now.figures c.args.tick c.args.live c.args.flags.now c.args.history.now c.args.cells.now c.args.report.now l.history l.cells l.report l.taken l.pairs l.still_open l.invariant
    (omega (arith, c.if-report-at.false, l.invariant.report_length, l.invariant.inside)) (omega (arith, count, c.loop-taken-test.true)) (omega (arith, count, c.loop-taken-test.true))
    (take (length l.report - 2 * l.pairs) (drop (2 * l.pairs) l.report)) refl c.requires m.result.reported m.result.live m.new.history m.new.cells m.new.report m.ensures m.auto.history m.auto.cells

pub returns : goal.returns
returns c =
    let l = c.loop-taken in
    let count = c.flags_left-count.ensures in
    let all : c.flags_left-count.result ≡ l.taken = omega arith in
    rw all (under_all c.args.rule.now.nodes.now c.args.rule.now.figures c.args.tick c.args.live c.args.flags.now c.args.history.now c.args.cells.now c.args.report.now l.history l.cells l.report l.taken l.pairs l.still_open l.invariant c.flags_left-count.result count (omega (arith, c.loop-taken-test.false)))
