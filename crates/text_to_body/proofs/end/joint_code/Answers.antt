-- `text_to_body::end::joint_code` meets its contract.
use mathlib.Core.Path.{sym, ◌∙◌}
use lib.ListN.{drop}
use Rattle.text_to_body.proofs.Endings.{joint_is_then, joint_is_beside}
use Rattle.text_to_body.proofs.end.joint_code.Goals as goal

pub returns-then-starts_at : goal.returns-then-starts_at
returns-then-starts_at c = let a = c.args in
    λ j t e. joint_is_then (drop a.at a.text.now) j t e (sym c.starts_at.ensures ∙ c.if-starts_at.true)

pub returns : goal.returns
returns c = let a = c.args in
    λ j t e. joint_is_beside (drop a.at a.text.now) j t e (sym c.starts_at.ensures ∙ c.if-starts_at.false)
