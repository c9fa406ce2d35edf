-- `admission::admit_opening` meets its contract.
use Rattle.refusal.proofs.Answers.{handed_on}
use Rattle.admission.proofs.Admits.{sized_small, opening_refused, opening_fits}
use Rattle.admission.proofs.admit_opening.Goals as goal

pub returns-in_err-figures : goal.returns-in_err-figures
returns-in_err-figures c =
    rw (handed_on c.from_residual.result c.in_err-figures.field-0.0 c.from_residual.ensures)
    (opening_refused _ _ c.figures.ensures _ _ c.in_err-figures.was)

pub fit_opening-requires : goal.fit_opening-requires
fit_opening-requires c = sized_small _ _ c.figures.ensures c.in_ok-figures.was

pub returns : goal.returns
returns c = opening_fits _ _ c.figures.ensures _ _ _ c.in_ok-figures.was c.fit_opening.ensures
