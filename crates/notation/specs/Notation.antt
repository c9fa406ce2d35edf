-- Rules as seismologists write them, document 02, point 2: what such a rule is, and its text. Letters, digits and signs
-- are their ASCII codes.
use Rattle.std.specs.Prelude.{ℕ, ◌≡◌, Bool, true, false, not, ◌&&◌, ◌||◌, List, [], ◌∷◌, ◌++◌, leb, eqb, length}

-- ---- what a rule is

-- "A bound is 0, infinity or a name, with at most one offset, as in 0+5."
pub data Base : Type 0 where
  origin : Base
  infinity : Base
  position : List ℕ → Base

pub data Offset : Type 0 where
  nothing : Offset
  plus : List ℕ → Offset
  minus : List ℕ → Offset

pub data End : Type 0 where
  end : Base → Offset → End

pub data Named : Type 0 where
  flag : List ℕ → ℕ → Named
  negate : Named → Named
  then : Named → Named → Named
  beside : Named → Named → Named
  forall : List ℕ → End → End → Named → Named

pub data Rule : Type 0 where
  monitor : List ℕ → Named → Rule

-- ---- the words of the notation: the text in quotes

-- "monitor"
abbrev pub monitor_word : List ℕ
monitor_word = 109 ∷ 111 ∷ 110 ∷ 105 ∷ 116 ∷ 111 ∷ 114 ∷ []

-- "forall"
abbrev pub forall_word : List ℕ
forall_word = 102 ∷ 111 ∷ 114 ∷ 97 ∷ 108 ∷ 108 ∷ []

-- "in"
abbrev pub in_word : List ℕ
in_word = 105 ∷ 110 ∷ []

-- "infinity"
abbrev pub infinity_word : List ℕ
infinity_word = 105 ∷ 110 ∷ 102 ∷ 105 ∷ 110 ∷ 105 ∷ 116 ∷ 121 ∷ []

-- "monitor "
abbrev pub monitor_sign : List ℕ
monitor_sign = monitor_word ++ (32 ∷ [])

-- "forall "
abbrev pub forall_sign : List ℕ
forall_sign = forall_word ++ (32 ∷ [])

-- " in "
abbrev pub in_sign : List ℕ
in_sign = 32 ∷ 105 ∷ 110 ∷ 32 ∷ []

-- ".."
abbrev pub to_sign : List ℕ
to_sign = 46 ∷ 46 ∷ []

-- " : "
abbrev pub colon_sign : List ℕ
colon_sign = 32 ∷ 58 ∷ 32 ∷ []

-- " && "
abbrev pub then_sign : List ℕ
then_sign = 32 ∷ 38 ∷ 38 ∷ 32 ∷ []

-- " /\ "
abbrev pub beside_sign : List ℕ
beside_sign = 32 ∷ 47 ∷ 92 ∷ 32 ∷ []

-- ---- the text of a rule, "single blanks as shown". Each part's text is followed by the text `rest`.

unfoldable pub base_text : Base → List ℕ → List ℕ
base_text origin rest = 48 ∷ rest  -- 0
base_text infinity rest = infinity_word ++ rest
base_text (position name) rest = name ++ rest

unfoldable pub offset_text : Offset → List ℕ → List ℕ
offset_text nothing rest = rest
offset_text (plus digits) rest = 43 ∷ (digits ++ rest)  -- +
offset_text (minus digits) rest = 45 ∷ (digits ++ rest)  -- -

unfoldable pub end_text : End → List ℕ → List ℕ
end_text (end base offset) rest = base_text base (offset_text offset rest)

unfoldable pub formula_text : Named → List ℕ → List ℕ
formula_text (flag name digit) rest = 64 ∷ (name ++ (46 ∷ digit ∷ rest))  -- @name.digit
formula_text (negate F) rest = 126 ∷ formula_text F rest  -- ~F
formula_text (then F G) rest = 40 ∷ formula_text F (then_sign ++ formula_text G (41 ∷ rest))  -- (F && G)
formula_text (beside F G) rest = 40 ∷ formula_text F (beside_sign ++ formula_text G (41 ∷ rest))  -- (F /\ G)
formula_text (forall name B₁ B₂ F) rest =
    forall_sign ++ (name ++ (in_sign ++ end_text B₁ (to_sign ++ end_text B₂ (colon_sign ++ formula_text F rest))))

-- "The whole is "monitor x : F""
unfoldable pub text : Rule → List ℕ
text (monitor name F) = monitor_sign ++ (name ++ (colon_sign ++ formula_text F []))

-- ---- which rules are spelt

unfoldable pub between : ℕ → ℕ → ℕ → Bool
between lo hi byte = leb lo byte && leb byte hi

abbrev pub letter : ℕ → Bool
letter = between 97 122

abbrev pub digit : ℕ → Bool
digit = between 48 57

unfoldable pub all : (ℕ → Bool) → List ℕ → Bool
all test [] = true
all test (byte ∷ rest) = test byte && all test rest

unfoldable pub same : List ℕ → List ℕ → Bool
same [] [] = true
same [] (byte ∷ rest) = false
same (byte ∷ rest) [] = false
same (byte ∷ rest) (other ∷ others) = eqb byte other && same rest others

-- "The words monitor, forall, in and infinity are no names."
unfoldable pub reserved : List ℕ → Bool
reserved name = same name monitor_word || (same name forall_word || (same name in_word || same name infinity_word))

-- "names of 1 to 8 lower-case letters"
unfoldable pub is_name : List ℕ → Bool
is_name name = all letter name && (leb 1 (length name) && (leb (length name) 8 && not (reserved name)))

-- "Offsets have 1 to 4 decimal digits"
unfoldable pub is_numeral : List ℕ → Bool
is_numeral digits = all digit digits && (leb 1 (length digits) && leb (length digits) 4)

abbrev pub SpeltBase : Base → Type 0
SpeltBase origin = Unit {0}
SpeltBase infinity = Unit {0}
SpeltBase (position name) = is_name name ≡ true

abbrev pub SpeltOffset : Offset → Type 0
SpeltOffset nothing = Unit {0}
SpeltOffset (plus digits) = is_numeral digits ≡ true
SpeltOffset (minus digits) = is_numeral digits ≡ true

abbrev pub SpeltEnd : End → Type 0
SpeltEnd (end base offset) = SpeltBase base × SpeltOffset offset

-- ".. and a flag has one" digit.
abbrev pub Spelt : Named → Type 0
Spelt (flag name byte) = (is_name name ≡ true) × (digit byte ≡ true)
Spelt (negate F) = Spelt F
Spelt (then F G) = Spelt F × Spelt G
Spelt (beside F G) = Spelt F × Spelt G
Spelt (forall name B₁ B₂ F) = (is_name name ≡ true) × SpeltEnd B₁ × SpeltEnd B₂ × Spelt F

abbrev pub SpeltRule : Rule → Type 0
SpeltRule (monitor name F) = (is_name name ≡ true) × Spelt F

-- A reading of a text: a rule that is spelt and has this text.
abbrev pub Reads : List ℕ → Rule → Type 0
Reads bytes rule = SpeltRule rule × (text rule ≡ bytes)
