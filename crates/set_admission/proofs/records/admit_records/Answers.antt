-- `set_admission::admit_records` meets its contract.
use lib.ListN.{length-map}
use Rattle.running.specs.Records.{rule_in}
use Rattle.set_admission.proofs.Recorded.{outside, opened_above, not_running, are_running}
use Rattle.set_admission.proofs.records.admit_records.Goals as goal

pub returns-then-rules-lt1 : goal.returns-then-rules-lt1
returns-then-rules-lt1 c = outside _ _ _ _ _ _ c.byte_after-rules.ensures.0 c.then-rules-lt1.either

pub returns-then-from-gt-MAX_HISTORY : goal.returns-then-from-gt-MAX_HISTORY
returns-then-from-gt-MAX_HISTORY c =
    opened_above _ _ _ _ _ _ c.byte_after-rules.ensures.0 c.if-rules-lt1.false c.if-rules-gt-MAX_RULES.false _ c.rule_at-lead.ensures (rw c.from.ensures at c.if-from-gt-MAX_HISTORY.true)

pub returns-in_default : goal.returns-in_default
returns-in_default c =
    not_running _ _ _ _ _ _ c.byte_after-rules.ensures.0
    c.if-rules-lt1.false c.if-rules-gt-MAX_RULES.false _ c.rule_at-lead.ensures (rw c.from.ensures at c.if-from-gt-MAX_HISTORY.false) _ _ (length-map c.args.records.now rule_in) c.min.ensures
    c.in_default.ensures

pub returns : goal.returns
returns c =
    are_running _ _ _ _ _ _ c.byte_after-rules.ensures.0
    c.if-rules-lt1.false c.if-rules-gt-MAX_RULES.false _ c.rule_at-lead.ensures (rw c.from.ensures at c.if-from-gt-MAX_HISTORY.false) _ _ (length-map c.args.records.now rule_in) c.min.ensures _
    c.in-Some.ensures _ c.fit_set.ensures
