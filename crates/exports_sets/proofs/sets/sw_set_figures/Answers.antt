-- `exports_sets::sets::sw_set_figures` meets its contract.
use Rattle.demand.specs.SetContract.{set_figures}
use Rattle.exports_sets.proofs.Answers.{figures_refused, figures_sized}
use Rattle.exports_sets.proofs.sets.sw_set_figures.Goals as goal

pub returns-in-Err : goal.returns-in-Err
returns-in-Err c =
    let a = c.args in
    let left = figures_refused (set_figures a.sheet.now) _ c.in-Err.ensures c.number.result a.rules.now a.history.now a.cells.now a.pairs.now c.number.ensures in
    record { value = left.0; rules_after = left.1.0; history_after = left.1.1.0; cells_after = left.1.1.1.0; pairs_after = left.1.1.1.1 }

pub returns-in-Ok : goal.returns-in-Ok
returns-in-Ok c =
    let a = c.args in
    let left = figures_sized (set_figures a.sheet.now) _ c.in-Ok.ensures a.rules.now a.history.now a.cells.now a.pairs.now in
    record { value = left.0; rules_after = left.1.0; history_after = left.1.1.0; cells_after = left.1.1.1.0; pairs_after = left.1.1.1.1 }
