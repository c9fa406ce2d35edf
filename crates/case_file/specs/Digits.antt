-- What hexadecimal digits are worth, and the decimal number at the front of a text.
use Rattle.std.specs.Prelude.{ℕ, ◌-◌, ◌≤◌, ◌<◌, cond, ltb, List, take, Option, Some, None}
use Rattle.std.specs.Char.{is_ascii_digit}
use Rattle.std.specs.List.{prefix_len}
use Rattle.std.specs.Str.Parse.{digits_value}

-- 0 to 15 for `0` to `9` and `a` to `f`; nothing for every other byte
unfoldable pub digit_value : ℕ → Option ℕ
digit_value byte = cond (ltb byte 48) None (cond (ltb byte 58) (Some (byte - 48)) (cond (ltb byte 97) None (cond (ltb byte 103) (Some (byte - 87)) None)))

-- how many decimal digits a text begins with
abbrev pub digit_count : List ℕ → ℕ
digit_count text = prefix_len is_ascii_digit text

-- what these digits are worth
abbrev pub number_of : List ℕ → ℕ
number_of text = digits_value 10 (take (digit_count text) text)

-- a text that begins with a number of at most 65,536
abbrev pub BeginsWithNumber : List ℕ → Type 0
BeginsWithNumber text = (0 < digit_count text) × (number_of text ≤ 65536)
