-- `text_to_body::scope::Scope::variable` meets its contract: no name from `variable` on is the one sought.
use Prim.Native.Nat.{◌≤◌}
use mathlib.Core.Path.{◌≡◌}
use lib.ListN.{length, drop}
use Rattle.notation.specs.Notation.{letter}
use Rattle.notation.specs.Reading.{run}
use Rattle.notation.specs.Bodies.{seek}
use Rattle.text_to_body.specs.Work.{in_scope, scope_of}
use Rattle.text_to_body.proofs.scope.Scope.variable.Given as goal

abbrev pub invariant-loop-variable : goal.invariant-loop-variable
invariant-loop-variable l =
    (l.variable ≤ length l.self.names.now)
    × (seek (in_scope l.self) (run letter (drop l.at l.self.text.now)) ≡ seek (scope_of l.self.text.now l.self.names.now l.variable) (run letter (drop l.at l.self.text.now)))
