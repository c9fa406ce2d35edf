-- `set_admission::sum_records` meets its contract.
use lib.ListN.{length-map}
use Rattle.running.specs.Records.{rule_in}
use Rattle.set_admission.proofs.Recorded.{so_far_broken, so_far_next, so_far_end, so_far_many}
use Rattle.set_admission.proofs.records.sum_records.Goals as goal

pub returns-then-not-rule_runs : goal.returns-then-not-rule_runs
returns-then-not-rule_runs c =
    so_far_broken _ _ _ _ _ _ _ c.loop-index.invariant c.loop-index-test.true (rw (length-map c.args.records.now rule_in) c.requires.1) _ c.rule_at-rule.ensures _ c.rule_runs.ensures (c.if-not-rule_runs.true)

pub loop-index-preserved : goal.loop-index-preserved
loop-index-preserved c =
    rw c.from.ensures (so_far_next _ _ _ _ _ _ _ c.loop-index.invariant c.loop-index-test.true (rw (length-map c.args.records.now rule_in) c.requires.1) _ c.rule_at-rule.ensures _ c.rule_runs.ensures (c.if-not-rule_runs.false))

pub returns-then-cells-gt-MAX_CELLS : goal.returns-then-cells-gt-MAX_CELLS
returns-then-cells-gt-MAX_CELLS c = so_far_many _ _ _ _ _ _ _ c.loop-index.invariant c.requires.0 c.loop-index-test.false c.if-cells-gt-MAX_CELLS.true

pub returns : goal.returns
returns c = so_far_end _ _ _ _ _ _ _ c.loop-index.invariant c.requires.0 c.loop-index-test.false c.if-cells-gt-MAX_CELLS.false
