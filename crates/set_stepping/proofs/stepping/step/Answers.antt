-- `set_stepping::stepping::step` meets its contract.
use mathlib.Core.Path.{refl}
use lib.ListN.{length}
use Rattle.refusal.proofs.Answers.{handed_on}
use Rattle.demand.specs.SetContract.{admit_records}
use Rattle.running.specs.Records.{rules_in}
use Rattle.set_stepping.proofs.Admitted.{refused_so, admitted_so}
use Rattle.set_stepping.proofs.stepping.step.Goals as goal

pub returns-in_err-admitted : goal.returns-in_err-admitted
returns-in_err-admitted c =
    rw (handed_on c.from_residual.result c.in_err-admitted.field-0.0 c.from_residual.ensures)
    (refused_so _ _ c.in_err-admitted.ensures, (refl, (refl, (refl, refl))))

pub take_flag-moved-requires : goal.take_flag-moved-requires
take_flag-moved-requires c =
    let a = c.args in
    let so = admitted_so (admit_records a.sheet.now (rules_in a.records.now) (length a.history.now) (length a.cells.now) (length a.report.now)) _ c.in_ok-admitted.ensures in
    record { figures = so.0; admitted = so.1 }

pub returns : goal.returns
returns c =
    let a = c.args in
    let so = admitted_so (admit_records a.sheet.now (rules_in a.records.now) (length a.history.now) (length a.cells.now) (length a.report.now)) _ c.in_ok-admitted.ensures in
    (so.0, so.1, c.take_flag-moved.ensures so.0 so.1)
