-- The guard on positions.
use Rattle.std.specs.Prelude.{ℕ, List, [], ◌∷◌}
use Rattle.rule.specs.Ticks.{clamped_at}

-- Positions clamped one by one. proofs/Clamping.antt shows that nothing changes where all are at most 2^62.
unfoldable pub clamped : List ℕ → List ℕ
clamped [] = []
clamped (q ∷ qs) = clamped_at q ∷ clamped qs
