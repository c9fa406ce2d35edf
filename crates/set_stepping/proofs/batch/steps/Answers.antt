-- `set_stepping::batch::steps` meets its contract.
use mathlib.Core.Path.{refl}
use lib.ListN.{length}
use Rattle.refusal.proofs.Answers.{handed_on}
use Rattle.demand.specs.SetContract.{admit_records}
use Rattle.running.specs.Records.{rules_in}
use Rattle.set_stepping.proofs.Admitted.{refused_so, admitted_so}
use Rattle.set_stepping.proofs.batch.steps.Goals as goal

pub returns-in_err-most : goal.returns-in_err-most
returns-in_err-most c =
    rw (handed_on c.from_residual.result c.in_err-most.field-0.0 c.from_residual.ensures)
    (refused_so _ _ c.in_err-most.ensures, (refl, (refl, (refl, refl))))

pub take_flags-counts-requires : goal.take_flags-counts-requires
take_flags-counts-requires c =
    let a = c.args in
    let so = admitted_so (admit_records a.sheet.now (rules_in a.records.now) (length a.history.now) (length a.cells.now) 8192) _ c.in_ok-most.ensures in
    record { figures = so.0; admitted = so.1; pairs_are = so.2 }

pub returns : goal.returns
returns c =
    let a = c.args in
    let so = admitted_so (admit_records a.sheet.now (rules_in a.records.now) (length a.history.now) (length a.cells.now) 8192) _ c.in_ok-most.ensures in
    (so.0, so.1, c.take_flags-counts.ensures so.0 so.1)
