-- `figures::scope::Scope::of_rule` meets its contract.
use Rattle.std.proofs.Common.{arith}
use Rattle.rule.specs.Figures.{at_tick}
use Rattle.figures.proofs.Distances.{first_within}
use Rattle.figures.proofs.scope.Scope.of_rule.Goals as goal

pub invariant_of-result : goal.invariant_of-result
unfolding at_tick
invariant_of-result c = record { nested = omega arith; near = first_within }
