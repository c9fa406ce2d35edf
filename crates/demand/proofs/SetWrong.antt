-- Sets that break demand 3: what the claim says of a set whose first rule is that of the proving ground's run, by computation.
use Prim.Native.Nat.{ℕ, ◌*◌}
use mathlib.Core.Path.{◌≡◌}
use mathlib.Core.List.{List, [], ◌∷◌, map}
use lib.ListN.{take}
use lib.IntN.{pos, negsuc}
use Rattle.refusal.specs.Answer.{accepted}
use Rattle.rule.specs.declared.Figures.{Figures}
use Rattle.rule.specs.Formula.{variable, Formula, flag, negate, beside, forall}
use Rattle.rule.specs.Meaning.{opposite, both, after, up, point, up_to, positions, range, walk, seen, every, outcome, rule}
use Rattle.rule.specs.Steps.{false_at, is_open, passing, live}
use Rattle.marked_cases.specs.Runs.{example_stream}
use Rattle.demand.specs.declared.Running.{Running}
use Rattle.demand.specs.SetContract.{SetTaken, SetStep}
use Rattle.demand.specs.SetDemand.{SetStepAsStated}

-- Rule 0 is the proving ground's; rule 1 is violated where flag 0 is up.
abbrev Fs : List Formula
Fs = negate (beside (flag 0 0) (forall (variable 0 (negsuc 0)) (variable 0 (pos 2)) (flag 1 0))) ∷ negate (flag 0 0) ∷ []

module _ (figures : List Figures) (L : ℕ) (made : SetStep) (taken : SetTaken) (took : made.answer ≡ accepted taken) where
  -- Pairs are of rule and tick, ascending by rule: step 7 reports tick 5 of rule 0 and tick 7 of rule 1. A set that reports nothing, one rule only, ticks
  -- without their rule, or all ticks ascending, says something else.
  pub pairs_at_7 : SetStepAsStated Fs figures L example_stream 7 made → (taken.pairs ≡ 2) × (take (2 * taken.pairs) made.report' ≡ 0 ∷ 5 ∷ 1 ∷ 7 ∷ [])
  unfolding opposite both after up point up_to positions range walk seen every outcome rule false_at passing
  pairs_at_7 h = ((h.report taken took).count, (h.report taken took).words)

  -- Each rule has its own live count, and the step has their sum.
  pub live_at_6 : SetStepAsStated Fs figures L example_stream 6 made
      → (map (λ (rule : Running). rule.live) taken.running ≡ 2 ∷ 0 ∷ []) × (taken.live_count ≡ 2)
  unfolding opposite both after up point up_to positions range walk seen every outcome rule is_open passing live
  live_at_6 h = ((h.report taken took).open_ticks, (h.report taken took).open_sum)
