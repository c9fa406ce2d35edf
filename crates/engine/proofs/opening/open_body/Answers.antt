-- `engine::opening::open_body` meets its contract.
use mathlib.Core.Path.{ap, ◌∙◌}
use lib.ListN.{length}
use Rattle.refusal.proofs.Answers.{handed_on}
use Rattle.engine.specs.States.{fresh_code}
use Rattle.engine.proofs.Opens.{not_opened, body_accepted}
use Rattle.engine.proofs.opening.open_body.Goals as goal

pub returns-in_err-admit_opening : goal.returns-in_err-admit_opening
returns-in_err-admit_opening c =
    rw (handed_on c.from_residual.result c.in_err-admit_opening.field-0.0 c.from_residual.ensures)
    (not_opened c.args.body.now c.args.history.now (length c.args.cells.now) c.admit_opening.result c.admit_opening.ensures c.in_err-admit_opening.was)

pub returns : goal.returns
returns c =
    (body_accepted c.args.body.now c.args.history.now (length c.args.cells.now) c.admit_opening.result c.admit_opening.ensures c.in_ok-admit_opening.was, (c.fresh.ensures ∙ ap (fresh_code c.args.body.now) c.zero.auto.history, c.zero.ensures))
