-- `instances::report_if_false` meets its contract: one word is written, or none.
use Rattle.std.proofs.Common.{rules, refl, ◌≡◌}
use Rattle.rule.specs.declared.Verdict.TheVariants.{False}
use Rattle.rule.specs.declared.Outcome.TheVariants.{Decided}
use Rattle.cell_runs.proofs.Reports.{report_none, report_one, tick_other, tick_now}
use Rattle.instances.proofs.instances.report_if_false.Goals as goal

pub returns-then-eq : goal.returns-then-eq
returns-then-eq c =
    let same : c.args.outcome ≡ Decided False c.args.t = search rules in
    let told = report_one c.args.report.now c.args.at c.args.p _ (tick_now c.args.outcome False c.args.t c.args.t c.args.p same refl refl) c.requires in
    record { value = told.0; report_after = told.1 }

pub returns : goal.returns
returns c =
    let other : c.args.outcome ≡ Decided False c.args.t → ⊥ = search rules in
    let told = report_none c.args.report.now c.args.at _ (tick_other c.args.outcome c.args.t c.args.p other) in
    record { value = told.0; report_after = told.1 }
