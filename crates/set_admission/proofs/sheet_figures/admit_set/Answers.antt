-- `set_admission::admit_set` meets its contract.
use Rattle.demand.specs.SetContract.{set_figures}
use Rattle.refusal.proofs.Answers.{handed_on}
use Rattle.set_admission.proofs.Added.{summed_refused, summed_accepted}
use Rattle.set_admission.proofs.Judged.{together, opening_no_figures, opening_judged}
use Rattle.set_admission.proofs.sheet_figures.admit_set.Goals as goal

pub returns-in_err-set_figures : goal.returns-in_err-set_figures
returns-in_err-set_figures c =
    rw (handed_on c.from_residual.result c.in_err-set_figures.field-0.0 c.from_residual.ensures)
    (opening_no_figures _ _ _ _ _ (summed_refused _ _ c.in_err-set_figures.ensures))

pub fit_set_opening-requires : goal.fit_set_opening-requires
fit_set_opening-requires c =
    let x = summed_accepted (set_figures c.args.sheet.now) c.in_ok-set_figures.ensures in
    rw x.2 (together _ _ x.1).few

pub returns : goal.returns
returns c =
    let x = summed_accepted (set_figures c.args.sheet.now) c.in_ok-set_figures.ensures in
    opening_judged _ _ _ _ x.0 _ x.1 (c.fit_set_opening.ensures x.0 x.2)
