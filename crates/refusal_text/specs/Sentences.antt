-- The sentence of each refusal, for people who read its number.
use Rattle.std.specs.Prelude.{ℕ, List, [], ◌∷◌, get_or}
use Prim.Native.Char.{code}
use Prim.Native.String.{String, [] as empty, ◌∷◌ as ◌then◌}

-- The bytes of a text in ASCII.
unfoldable pub ascii : String → List ℕ
ascii empty = []
ascii (letter then text) = code letter ∷ ascii text

abbrev pub unknown : String
unknown = "no such refusal"

-- By number, from 0 on, which is no refusal.
abbrev pub sentences : List String
sentences =
    unknown
    ∷ "sheet empty, not 1 to 32 rules, or its table of contents is cut short"  -- 1
    ∷ "an entry of the sheet breaks the layout"  -- 2
    ∷ "no such rule"  -- 3
    ∷ "the body ends too early"  -- 4
    ∷ "unknown code or kind"  -- 5
    ∷ "a variable that is not bound here"  -- 6
    ∷ "a flag above 7"  -- 7
    ∷ "an offset outside -4,095 to 4,095"  -- 8
    ∷ "a 65th formula or a 5th nested quantifier"  -- 9
    ∷ "bytes left over after the formula"  -- 10
    ∷ "the delay is infinite"  -- 11
    ∷ "the delay is above 255"  -- 12
    ∷ "the history is infinite"  -- 13
    ∷ "the history is above 4,096"  -- 14
    ∷ "more than 4,096 cells"  -- 15
    ∷ "the recording is too long, or the tick is not in it"  -- 16
    ∷ "the history has a wrong length"  -- 17
    ∷ "the cell table is too short"  -- 18
    ∷ "the report is too short"  -- 19
    ∷ "tick numbers are used up"  -- 20
    ∷ "state and cells were not left by one opening and its steps"  -- 21
    ∷ "the buffer is too short"  -- 22
    ∷ "a bound of kind 0 or 1 whose variable byte is not 0"  -- 23
    ∷ "an infinity with an offset"  -- 24
    ∷ "the text is misspelt or above 4,096 bytes"  -- 25
    ∷ "a name that is not bound here"  -- 26
    ∷ "more than 4,096 cells in all rules"  -- 27
    ∷ []

-- The sentence of a number; every other number has that of 0.
unfoldable pub sentence_of : ℕ → List ℕ
sentence_of number = ascii (get_or sentences number unknown)
