-- `text_to_body::write_body` meets its contract.
use native.Mathlib.Omega.{arith}
use lib.ListN.{length, take}
use Rattle.refusal.proofs.Answers.{handed_on}
use Rattle.refusal.specs.Numbers.{number_of}
use Rattle.refusal.specs.Answer.{and_then}
use Rattle.notation.proofs.Written.{writes_nothing, writes_same}
use Rattle.notation.specs.Bodies.{checked, fitted, body_of_text}
use Rattle.text_to_body.proofs.Answers.{too_long_text, untranslated, bytes_inside, translates}
use Rattle.text_to_body.proofs.Texts.{too_long}
use Rattle.text_to_body.proofs.write_body.Goals as goal

pub returns-then-text-gt4096 : goal.returns-then-text-gt4096
returns-then-text-gt4096 c =
    let a = c.args in
    let room = length a.out.now in
    writes_nothing (body_of_text a.text.now room) 25 a.out.now (too_long_text a.text.now room (too_long a.text.now c.if-text-gt4096.true))

pub returns-in_err-length : goal.returns-in_err-length
returns-in_err-length c =
    let a = c.args in
    let room = length a.out.now in
    let x = c.in_err-length.field-0.0 in
    rw (handed_on c.from_residual.result x c.from_residual.ensures)
    (writes_nothing (body_of_text a.text.now room) (number_of x) a.out.now (untranslated a.text.now _ x room c.in_err-length.ensures.translated))

pub shared_ref_as_front-write_if_legal : goal.shared_ref_as_front-write_if_legal
shared_ref_as_front-write_if_legal c =
    omega (arith, bytes_inside c.args.text.now c.translate.new.self.bytes c.in_ok-length.length c.in_ok-length.ensures.translated, c.translate.ensures.room)

pub returns : goal.returns
returns c =
    let a = c.args in
    let room = length a.out.now in
    let bytes = c.translate.new.self.bytes in
    let n = c.in_ok-length.length in
    let e = translates a.text.now bytes n c.in_ok-length.ensures.translated room in
    writes_same (body_of_text a.text.now room) (and_then (checked (take n bytes)) (fitted room)) _ a.out.now _ e c.write_if_legal.ensures
