-- The head cell of a range: how many leading positions are true (word 0), and the latest of their steps, counted from p (word 2).
use Rattle.std.specs.Prelude.{ℕ, cond, eqb, leb}
use Rattle.cells.specs.Cells.{step_after}

-- The latest step, where `leading` positions are true and word 2 says `steps`.
unfoldable pub latest_of : ℕ → ℕ → ℕ → ℕ → ℕ
latest_of p s leading steps = cond (eqb leading 0) s (step_after p steps)

-- How many leading positions a step leaves alone: none where the range starts now, and never more than there are.
unfoldable pub leading_of : ℕ → ℕ → ℕ → ℕ → ℕ
leading_of s t positions leading = cond (eqb t s) 0 (cond (leb leading positions) leading 0)
