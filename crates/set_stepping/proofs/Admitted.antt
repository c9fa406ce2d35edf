-- What the admission of records says of a step or a batch.
use Prim.Native.Nat.{ℕ}
use mathlib.Core.Path.{◌≡◌, refl, sym, ap}
use mathlib.Core.List.{List}
use Rattle.refusal.specs.Answer.{Answer, refused, accepted, and_then}
use Rattle.refusal.proofs.Answers.{not_accepted, same_value, same_refusal}
use Rattle.rule.specs.declared.Figures.{Figures}
use Rattle.demand.specs.SetContract.{all_delays}
use Rattle.set_admission.specs.Fit.{most_pairs}

-- It was refused so.
pub refused_so : (answer : Answer (List Figures)) (number : ℕ) → refused number ≡ most_pairs answer → answer ≡ refused number
unfolding and_then
refused_so (refused other) number told = ap refused (sym (same_refusal told))
refused_so (accepted figures) number told = absurd (not_accepted told)

-- Or admitted, with so many pairs at most.
pub admitted_so : (answer : Answer (List Figures)) (pairs : ℕ) → accepted pairs ≡ most_pairs answer → (figures : List Figures) × (answer ≡ accepted figures) × (pairs ≡ all_delays figures)
unfolding and_then
admitted_so (refused number) pairs told = absurd (not_accepted (sym told))
admitted_so (accepted figures) pairs told = (figures, refl, same_value told)
