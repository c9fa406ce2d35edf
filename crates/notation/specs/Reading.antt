-- The reading of a text, found from left to right. That it is the reading, and the only one, is `reads` and `one_reading` in proofs/.
use Rattle.std.specs.Prelude.{ℕ, zero, suc, Bool, true, false, cond, ◌&&◌, List, [], ◌∷◌, leb, eqb, length, drop}
use Rattle.refusal.specs.Answer.{Answer, refused, accepted}
use Rattle.notation.specs.Notation.{Base, origin, infinity, position, Offset, nothing, plus, minus, End, end, Named, flag, negate, then, beside, forall, Rule, monitor, infinity_word, monitor_sign, forall_sign, in_sign, to_sign, colon_sign, then_sign, beside_sign, letter, digit, same, is_name, is_numeral}

-- What is read at the start of a text, and the text after it.
pub data Got (A : Type 0) : Type 0 where
  none : Got A
  got : A → List ℕ → Got A

unfoldable pub and_read : {A B : Type 0} → Got A → (A → List ℕ → Got B) → Got B
and_read none next = none
and_read (got value rest) next = next value rest

unfoldable pub starts : List ℕ → List ℕ → Bool
starts [] text = true
starts (first ∷ word) [] = false
starts (first ∷ word) (byte ∷ rest) = eqb byte first && starts word rest

-- A fixed word, and what is read after it.
unfoldable pub expect : {A : Type 0} → List ℕ → List ℕ → (List ℕ → Got A) → Got A
expect word text next = cond (starts word text) (next (drop (length word) text)) none

-- The longest start of a text whose bytes pass a test, and the text after it.
unfoldable pub run : (ℕ → Bool) → List ℕ → List ℕ
run test [] = []
run test (byte ∷ rest) = cond (test byte) (byte ∷ run test rest) []

unfoldable pub past : (ℕ → Bool) → List ℕ → List ℕ
past test [] = []
past test (byte ∷ rest) = cond (test byte) (past test rest) (byte ∷ rest)

unfoldable pub read_name : List ℕ → Got (List ℕ)
read_name text = cond (is_name (run letter text)) (got (run letter text) (past letter text)) none

unfoldable pub read_numeral : List ℕ → Got (List ℕ)
read_numeral text = cond (is_numeral (run digit text)) (got (run digit text) (past digit text)) none

unfoldable pub one_digit : List ℕ → Got ℕ
one_digit [] = none
one_digit (byte ∷ rest) = cond (digit byte) (got byte rest) none

unfoldable pub read_base : List ℕ → Got Base
read_base text =
    cond (starts (48 ∷ []) text) (got origin (drop 1 text))
    (cond (same (run letter text) infinity_word) (got infinity (past letter text)) (and_read (read_name text) (λ name rest. got (position name) rest)))

unfoldable pub read_offset : List ℕ → Got Offset
read_offset text =
    cond (starts (43 ∷ []) text) (and_read (read_numeral (drop 1 text)) (λ digits rest. got (plus digits) rest))
    (cond (starts (45 ∷ []) text) (and_read (read_numeral (drop 1 text)) (λ digits rest. got (minus digits) rest)) (got nothing text))

unfoldable pub read_end : List ℕ → Got End
read_end text = and_read (read_base text) (λ base after. and_read (read_offset after) (λ offset rest. got (end base offset) rest))

-- A formula's text before its first part.
pub data Token : Type 0 where
  flag_token : List ℕ → ℕ → Token
  negate_token : Token
  open_token : Token
  forall_token : List ℕ → End → End → Token

-- After "@": a name, ".", a digit.
unfoldable pub flag_digit : List ℕ → List ℕ → Got Token
flag_digit name text = and_read (one_digit text) (λ digit rest. got (flag_token name digit) rest)

unfoldable pub flag_point : List ℕ → List ℕ → Got Token
flag_point name text = expect (46 ∷ []) text (flag_digit name)

unfoldable pub read_flag : List ℕ → Got Token
read_flag text = and_read (read_name text) flag_point

-- After "forall ": a name, " in ", a bound, "..", a bound, " : ".
unfoldable pub forall_colon : List ℕ → End → End → List ℕ → Got Token
forall_colon name B₁ B₂ text = expect colon_sign text (λ rest. got (forall_token name B₁ B₂) rest)

unfoldable pub forall_second : List ℕ → End → List ℕ → Got Token
forall_second name B₁ text = and_read (read_end text) (forall_colon name B₁)

unfoldable pub forall_to : List ℕ → End → List ℕ → Got Token
forall_to name B₁ text = expect to_sign text (forall_second name B₁)

unfoldable pub forall_first : List ℕ → List ℕ → Got Token
forall_first name text = and_read (read_end text) (forall_to name)

unfoldable pub forall_range : List ℕ → List ℕ → Got Token
forall_range name text = expect in_sign text (forall_first name)

unfoldable pub read_forall : List ℕ → Got Token
read_forall text = and_read (read_name text) forall_range

unfoldable pub read_token : List ℕ → Got Token
read_token text =
    cond (starts (64 ∷ []) text) (read_flag (drop 1 text))
    (cond (starts (126 ∷ []) text) (got negate_token (drop 1 text))
    (cond (starts (40 ∷ []) text) (got open_token (drop 1 text))
    (expect forall_sign text read_forall)))

-- The text between the parts in brackets.
pub data Joint : Type 0 where
  then_joint : Joint
  beside_joint : Joint

unfoldable pub joint : List ℕ → Got Joint
joint text = cond (starts then_sign text) (got then_joint (drop 4 text)) (expect beside_sign text (λ rest. got beside_joint rest))

unfoldable pub joined : Joint → Named → Named → Named
joined then_joint F G = then F G
joined beside_joint F G = beside F G

unfoldable pub second : (List ℕ → Got Named) → Named → Joint → List ℕ → Got Named
second part F connective text = and_read (part text) (λ G after. expect (41 ∷ []) after (λ rest. got (joined connective F G) rest))

-- The parts, each read by `part`.
unfoldable pub read_parts : (List ℕ → Got Named) → Token → List ℕ → Got Named
read_parts part (flag_token name digit) text = got (flag name digit) text
read_parts part negate_token text = and_read (part text) (λ F rest. got (negate F) rest)
read_parts part open_token text = and_read (part text) (λ F after. and_read (joint after) (second part F))
read_parts part (forall_token name B₁ B₂) text = and_read (part text) (λ F rest. got (forall name B₁ B₂ F) rest)

-- The formula at the start of a text. `fuel` only makes the recursion end: it is above the text's length, so its 0 is never reached.
unfoldable pub read_formula : ℕ → List ℕ → Got Named
read_formula zero text = none
read_formula (suc fuel) text = and_read (read_token text) (read_parts (read_formula fuel))

unfoldable pub formula_read : List ℕ → Got Named
formula_read text = read_formula (suc (length text)) text

-- "monitor ", a name, " : ".
unfoldable pub rule_colon : List ℕ → List ℕ → Got (List ℕ)
rule_colon name text = expect colon_sign text (λ rest. got name rest)

unfoldable pub rule_name : List ℕ → Got (List ℕ)
rule_name text = and_read (read_name text) rule_colon

unfoldable pub rule_head : List ℕ → Got (List ℕ)
rule_head text = expect monitor_sign text rule_name

unfoldable pub rule_at : List ℕ → Got Rule
rule_at text = and_read (rule_head text) (λ name after. and_read (formula_read after) (λ F rest. got (monitor name F) rest))

-- The whole text: "misspelt text, or text above 4,096 bytes, is 25".
unfoldable pub whole_text : Got Rule → Answer Rule
whole_text none = refused 25
whole_text (got rule []) = accepted rule
whole_text (got rule (byte ∷ rest)) = refused 25

unfoldable pub reading : List ℕ → Answer Rule
reading text = cond (leb (length text) 4096) (whole_text (rule_at text)) (refused 25)
