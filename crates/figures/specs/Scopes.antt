-- The pairs of the variables that are bound at a formula.
use Rattle.std.specs.Prelude.{◌+◌, List, take}
use Rattle.rule.specs.declared.Pair.{Pair}
use Rattle.figures.specs.declared.scope.Scope.{Scope}

abbrev pub inside : Scope → List Pair
inside scope = take (scope.depth + 1) scope.pairs
