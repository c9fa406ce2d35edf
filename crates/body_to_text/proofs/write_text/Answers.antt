-- `body_to_text::write_text` meets its contract.
use mathlib.Core.Path.{refl, sym}
use lib.ListN.{length}
use Rattle.refusal.specs.Numbers.{number_of}
use Rattle.refusal.proofs.Answers.{handed_on}
use Rattle.notation.specs.Bodies.{fitted}
use Rattle.notation.specs.Printing.{text_of_body}
use Rattle.notation.proofs.Written.{writes_nothing, writes_same}
use Rattle.body_to_text.specs.Parts.{rule_text}
use Rattle.body_to_text.proofs.Bodies.{writable, text_read, text_refused}
use Rattle.body_to_text.proofs.write_text.Goals as goal

pub returns-in_err-reading : goal.returns-in_err-reading
returns-in_err-reading c =
    let a = c.args in
    let room = length a.out.now in
    let x = c.in_err-reading.field-0.0 in
    rw (handed_on c.from_residual.result x c.from_residual.ensures)
    (writes_nothing (text_of_body a.body.now room) (number_of x) a.out.now (sym (text_refused a.body.now c.in_err-reading.ensures room refl)))

pub write_rule-requires : goal.write_rule-requires
write_rule-requires c = writable c.args.body.now c.in_ok-reading.ensures refl

pub returns : goal.returns
returns c =
    let a = c.args in
    let room = length a.out.now in
    let e = text_read a.body.now c.in_ok-reading.ensures room refl in
    writes_same (text_of_body a.body.now room) (fitted room (rule_text c.read_body-reading.new.nodes)) _ a.out.now _ (sym e) c.write_rule.ensures
