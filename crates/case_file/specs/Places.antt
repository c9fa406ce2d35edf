-- Places in a text.
use Rattle.std.specs.Prelude.{ℕ, List, length, position, unwrap_or, ◌==◌, ◌≡◌, ◌-◌, ◌<◌, slice_index}

-- the place of the first such byte; the text's length where there is none
abbrev pub index_of : ℕ → List ℕ → ℕ
index_of byte text = unwrap_or (position (λ b. b == byte) text) (length text)

-- a line with a bar, a blank in front of it and something in front of that
abbrev pub IsNamed : List ℕ → Type 0
IsNamed line = (index_of 124 line < length line) × (1 < index_of 124 line) × (slice_index line (index_of 124 line - 1) ≡ 32)
