-- `set_admission::sum_figures` meets its contract.
use mathlib.Core.Path.{◌≡◌}
use Rattle.refusal.specs.Answer.{accepted}
use Rattle.demand.specs.SetContract.{bodies_from, all_figures}
use Rattle.set_admission.specs.Together.{summed}
use Rattle.set_admission.proofs.sheet_figures.sum_figures.Given as goal

abbrev pub invariant-loop-index : goal.invariant-loop-index
invariant-loop-index l = accepted l.sums ≡ summed (all_figures (bodies_from l.index l.sheet 0))
