-- Numbers of 64 bits in lent bytes, low byte first.
use Rattle.std.specs.Prelude.{ℕ, zero, suc, ◌+◌, ◌*◌, ◌/◌, ◌%◌, List, [], ◌∷◌, take, drop}

-- The number that bytes stand for, low byte first.
unfoldable pub value : List ℕ → ℕ
value [] = 0
value (byte ∷ bytes) = byte + 256 * value bytes

-- So many low bytes of a number, low byte first.
unfoldable pub low_bytes : ℕ → ℕ → List ℕ
low_bytes zero number = []
low_bytes (suc count) number = number % 256 ∷ low_bytes count (number / 256)

-- The 64-bit number at a position.
unfoldable pub number_at : List ℕ → ℕ → ℕ
number_at bytes at = value (take 8 (drop at bytes))
