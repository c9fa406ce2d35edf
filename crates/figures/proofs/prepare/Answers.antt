-- `figures::prepare` meets its contract.
use Rattle.std.proofs.Common.{rules, arith, refl, ◌≡◌, length}
use Rattle.refusal.proofs.Answers.{handed_on}
use Rattle.figures.proofs.Bodies.{refused_prepared, measured_prepared}
use Rattle.figures.proofs.prepare.Goals as goal

pub returns-in_err-read_body : goal.returns-in_err-read_body
returns-in_err-read_body c =
    rw (handed_on c.from_residual.result c.in_err-read_body.field-0.0 c.from_residual.ensures)
    (refused_prepared _ _ _ _ c.in_err-read_body.ensures refl)

pub returns : goal.returns
returns c =
    let h : length c.read_body.new.nodes ≡ 768 = search rules in
    measured_prepared _ c.read_body.new.nodes c.measure_rule-figure.new.nodes _ _ _ _ c.read_body.ensures c.in_ok-read_body.was (omega arith)
    c.measure_rule-figure.ensures c.limit_delay-answer.ensures c.clear_if_refused.ensures
