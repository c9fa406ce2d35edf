-- The history as a ring: tick q has its byte at q mod L.
use Rattle.std.specs.Prelude.{ℕ, ◌%◌, cond, List, eqb, length, get_or}

abbrev pub history_byte : List ℕ → ℕ → ℕ
history_byte history q = get_or history (q % length history) 0

-- The byte of tick q: the flag byte given where q is t, or that of the history.
abbrev pub byte_of : List ℕ → ℕ → ℕ → ℕ → ℕ
byte_of history flag t q = cond (eqb q t) flag (history_byte history q)
