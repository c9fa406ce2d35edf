-- `text_to_body::values::leading_value` meets its contract.
use Prim.Native.Nat.{◌<◌}
use mathlib.Core.Path.{◌≡◌}
use lib.ListN.{drop}
use Rattle.notation.specs.Notation.{digit}
use Rattle.notation.specs.Reading.{run}
use Rattle.notation.specs.Bodies.{value_on}
use Rattle.text_to_body.proofs.values.leading_value.Given as goal

abbrev pub invariant-loop-byte : goal.invariant-loop-byte
invariant-loop-byte l = (l.number < 65536) × (value_on 0 (run digit l.text) ≡ value_on l.number (run digit (drop l.byte-index l.text)))
