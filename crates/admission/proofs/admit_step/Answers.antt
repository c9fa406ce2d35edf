-- `admission::admit_step` meets its contract. What comes of a history that is too long is found by the lemma that its attribute names.
use Rattle.std.proofs.Common.{arith}
use Rattle.admission.proofs.Admits.{sized_small, step_no_rule, step_fits}
use Rattle.admission.proofs.admit_step.Goals as goal

pub fit-fit-requires : goal.fit-fit-requires
fit-fit-requires c = sized_small _ _ c.prepare.ensures.answer c.in-Ok.is

pub returns-in_default : goal.returns-in_default
returns-in_default c = step_no_rule _ _ _ _ _ _ _ _ (omega arith) c.prepare.ensures c.in_default.is

pub returns : goal.returns
returns c =
    step_fits _ _ _ _ _ _ _ _ (omega arith) c.prepare.ensures _ _ c.in-Ok.is c.fit-fit.ensures
    c.clear_if_refused.ensures
