-- `set_admission::set_figures` meets its contract.
use mathlib.Core.Path.{refl, sym, ◌∙◌}
use Rattle.refusal.specs.Answer.{and_then}
use Rattle.refusal.proofs.Answers.{handed_on}
use Rattle.set_admission.proofs.Laying.{sheet_refused, sheet_laid}
use Rattle.set_admission.proofs.Judged.{no_figures_of, no_figures_laid, figures_of}
use Rattle.set_admission.proofs.sheet_figures.set_figures.Goals as goal

pub returns-in_err-find_rule : goal.returns-in_err-find_rule
returns-in_err-find_rule c =
    rw (handed_on c.from_residual.result c.in_err-find_rule.field-0.0 c.from_residual.ensures)
    (no_figures_of _ _ (sheet_refused _ _ (sym c.in_err-find_rule.ensures)))

pub sum_figures-requires : goal.sum_figures-requires
sum_figures-requires c = sheet_laid _ _ (sym c.in_ok-find_rule.ensures)

pub returns-in_err-sum_figures : goal.returns-in_err-sum_figures
returns-in_err-sum_figures c =
    rw (handed_on c.from_residual-in_err-sum_figures.result c.in_err-sum_figures.field-0.0 c.from_residual-in_err-sum_figures.ensures)
    (no_figures_laid _ _ (sheet_laid _ _ (sym c.in_ok-find_rule.ensures)) c.in_err-sum_figures.ensures)

pub returns : goal.returns
unfolding and_then
returns c =
    figures_of _ _ (sheet_laid _ _ (sym c.in_ok-find_rule.ensures)) (c.limit_all_cells.ensures ∙ rw (← c.in_ok-sum_figures.ensures) refl)
