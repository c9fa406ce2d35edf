-- The lines that the program `watch` prints, as bytes. Document 01, "Proving ground": "Fields: rule, figures; tick and deciding step; ticks
-- taken, violations, live. A refusal prints "refused" and its number."
use Rattle.std.specs.Prelude.{ℕ, zero, suc, ◌+◌, ◌/◌, ◌%◌, cond, List, [], ◌∷◌, ◌++◌, ltb}

-- The decimal digits of a number that has at most so many, with no 0 in front.
unfoldable pub numeral_within : ℕ → ℕ → List ℕ
numeral_within zero number = []
numeral_within (suc most) number = cond (ltb number 10) ((48 + number) ∷ []) (numeral_within most (number / 10) ++ ((48 + number % 10) ∷ []))

-- A number of 64 bits has at most 20.
unfoldable pub decimal : ℕ → List ℕ
decimal number = numeral_within 20 number

-- A line with a word and a number added to it.
unfoldable pub with_field : List ℕ → List ℕ → ℕ → List ℕ
with_field line word number = (line ++ word) ++ decimal number

-- The words, in ASCII: the text in quotes.
-- "refused "
abbrev pub refused_word : List ℕ
refused_word = 114 ∷ 101 ∷ 102 ∷ 117 ∷ 115 ∷ 101 ∷ 100 ∷ 32 ∷ []

-- "rule 0 history "
abbrev pub rule_word : List ℕ
rule_word = 114 ∷ 117 ∷ 108 ∷ 101 ∷ 32 ∷ 48 ∷ 32 ∷ 104 ∷ 105 ∷ 115 ∷ 116 ∷ 111 ∷ 114 ∷ 121 ∷ 32 ∷ []

-- " delay "
abbrev pub delay_word : List ℕ
delay_word = 32 ∷ 100 ∷ 101 ∷ 108 ∷ 97 ∷ 121 ∷ 32 ∷ []

-- " cells "
abbrev pub cells_word : List ℕ
cells_word = 32 ∷ 99 ∷ 101 ∷ 108 ∷ 108 ∷ 115 ∷ 32 ∷ []

-- "violation "
abbrev pub violation_word : List ℕ
violation_word = 118 ∷ 105 ∷ 111 ∷ 108 ∷ 97 ∷ 116 ∷ 105 ∷ 111 ∷ 110 ∷ 32 ∷ []

-- " at "
abbrev pub at_word : List ℕ
at_word = 32 ∷ 97 ∷ 116 ∷ 32 ∷ []

-- "end "
abbrev pub end_word : List ℕ
end_word = 101 ∷ 110 ∷ 100 ∷ 32 ∷ []

-- " steps "
abbrev pub steps_word : List ℕ
steps_word = 32 ∷ 115 ∷ 116 ∷ 101 ∷ 112 ∷ 115 ∷ 32 ∷ []

-- " violations "
abbrev pub violations_word : List ℕ
violations_word = 32 ∷ 118 ∷ 105 ∷ 111 ∷ 108 ∷ 97 ∷ 116 ∷ 105 ∷ 111 ∷ 110 ∷ 115 ∷ 32 ∷ []

-- " live\n"
abbrev pub live_word : List ℕ
live_word = 32 ∷ 108 ∷ 105 ∷ 118 ∷ 101 ∷ 10 ∷ []

-- "\n"
abbrev pub line_end : List ℕ
line_end = 10 ∷ []

-- As `refused 2`: a refusal's number.
unfoldable pub refused_line : ℕ → List ℕ
refused_line number = with_field [] refused_word number ++ line_end

-- As `rule 0 history 1 delay 2 cells 21`.
unfoldable pub figures_line : ℕ → ℕ → ℕ → List ℕ
figures_line history delay cells = with_field (with_field (with_field [] rule_word history) delay_word delay) cells_word cells ++ line_end

-- As `violation 5 at 7`: tick and deciding step.
unfoldable pub violation_line : ℕ → ℕ → List ℕ
violation_line tick step = with_field (with_field [] violation_word tick) at_word step ++ line_end

-- As `end 10 steps 1 violations 0 live`.
unfoldable pub end_line : ℕ → ℕ → ℕ → List ℕ
end_line ticks violations live = with_field (with_field (with_field [] end_word ticks) steps_word violations) violations_word live ++ live_word
