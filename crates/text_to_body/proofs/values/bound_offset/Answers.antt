-- `text_to_body::values::bound_offset` meets its contract.
use native.Mathlib.Omega.{arith}
use Rattle.notation.specs.Notation.{end}
use Rattle.text_to_body.proofs.Scopes.{no_end, end_offset}
use Rattle.text_to_body.proofs.values.bound_offset.Goals as goal

pub returns-in-Some : goal.returns-in-Some
returns-in-Some c =
    let a = c.args in
    let f = c.offset_at.ensures in
    (f.0, λ b o t e. f.1 o t (end_offset a.text.now a.at c.in-Some.after_base b o t c.in-Some.ensures e))

pub returns-in-None : goal.returns-in-None
returns-in-None c =
    let a = c.args in
    (omega arith, λ b o t e. absurd (no_end a.text.now a.at (end b o) t c.in-None.ensures e))
