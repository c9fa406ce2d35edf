-- Cells as the code counts them, up to 4,097: above the limit of 4,096 it does not matter how many there are.
use Rattle.std.specs.Prelude.{ℕ, ◌+◌, ◌*◌, min, max}
use Rattle.rule.specs.declared.Size.{Size}
use Rattle.rule.specs.declared.Size.TheVariants.{Finite, Unbounded}

-- The count of a number of the definitions.
abbrev pub cap : Size → ℕ
cap (Finite n) = min n 4097
cap Unbounded = 4097

abbrev pub sum : ℕ → ℕ → ℕ
sum a b = min (a + b) 4097

abbrev pub product : ℕ → ℕ → ℕ
product a b = min (a * b) 4097

-- ---- 01, "Cells", on counts

-- "then, 1 + the larger"
abbrev pub then_cells : ℕ → ℕ → ℕ
then_cells first second = sum 1 (max first second)

-- "beside, 1 + the sum"
abbrev pub beside_cells : ℕ → ℕ → ℕ
beside_cells first second = sum 1 (sum first second)

-- "for all, 1 + W times (1 + the body's)"
abbrev pub range_cells : ℕ → ℕ → ℕ
range_cells W cells = sum 1 (product W (sum 1 cells))

-- "The rule needs (delay + 1) times (1 + its cells)."
abbrev pub rule_cells : ℕ → ℕ → ℕ
rule_cells delay cells = product (sum delay 1) (sum 1 cells)
