-- `text_to_body::values::leading_value` meets its contract.
use mathlib.Core.Path.{sym, ◌∙◌}
use lib.ListN.{get_or}
use native.Mathlib.Numerals.{add-one}
use Rattle.notation.specs.Notation.{digit}
use Rattle.text_pieces.proofs.Scanning.{run_stop, run_none}
use Rattle.text_to_body.proofs.Scopes.{digit_least, value_more, value_done}
use Rattle.text_to_body.proofs.values.leading_value.Goals as goal

pub with_digit-number-requires : goal.with_digit-number-requires
with_digit-number-requires c =
    let a = c.args in
    let t = sym c.is_between.ensures ∙ c.if-not-is_between.false in
    (c.loop-byte.invariant.0, digit_least (get_or a.text.now c.loop-byte.byte-index 0) t)

pub loop-byte-preserved : goal.loop-byte-preserved
loop-byte-preserved c =
    let a = c.args in
    let l = c.loop-byte in
    let t = sym c.is_between.ensures ∙ c.if-not-is_between.false in
    let q = value_more a.text.now l.byte-index l.number c.loop-byte-test.true t in
    (c.with_digit-number.ensures.1, rw (add-one l.byte-index, c.with_digit-number.ensures.0) (l.invariant.1 ∙ q))

pub returns-then-not-is_between : goal.returns-then-not-is_between
returns-then-not-is_between c =
    let l = c.loop-byte in
    let t = sym c.is_between.ensures ∙ c.if-not-is_between.true in
    let q = run_stop digit c.args.text.now l.byte-index c.loop-byte-test.true t in
    (sym (l.invariant.1 ∙ value_done c.args.text.now l.byte-index l.number q), l.invariant.0)

pub returns : goal.returns
returns c =
    let l = c.loop-byte in
    let q = run_none digit c.args.text.now l.byte-index c.loop-byte-test.false in
    (sym (l.invariant.1 ∙ value_done c.args.text.now l.byte-index l.number q), l.invariant.0)
