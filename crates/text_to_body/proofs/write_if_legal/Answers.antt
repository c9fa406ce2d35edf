-- `text_to_body::write_if_legal` meets its contract.
use lib.ListN.{length}
use Rattle.refusal.proofs.Answers.{handed_on}
use Rattle.notation.proofs.Written.{writes_nothing, writes_same}
use Rattle.text_to_body.proofs.Answers.{illegal, legal}
use Rattle.refusal.specs.Answer.{and_then}
use Rattle.notation.specs.Bodies.{checked, fitted}
use Rattle.text_to_body.proofs.write_if_legal.Goals as goal
use mathlib.Core.Path.{refl}

pub returns-in_err-read_body : goal.returns-in_err-read_body
returns-in_err-read_body c =
    let a = c.args in
    let e = illegal a.body.now c.in_err-read_body.ensures (length a.out.now) refl in
    rw (handed_on c.from_residual.result c.in_err-read_body.field-0.0 c.from_residual.ensures)
    (writes_nothing (and_then (checked a.body.now) (fitted (length a.out.now))) _ a.out.now e)

pub returns : goal.returns
returns c =
    let a = c.args in
    let e = legal a.body.now c.in_ok-read_body.ensures (length a.out.now) refl in
    writes_same (and_then (checked a.body.now) (fitted (length a.out.now))) (fitted (length a.out.now) a.body.now) _ a.out.now _ e c.deliver.ensures
