-- The body of a rule in the notation, document 01, "The body".
use Rattle.std.specs.Prelude.{ℕ, suc, ◌+◌, ◌-◌, ◌*◌, ◌/◌, ◌%◌, ◌≤◌, ◌<◌, ◌≡◌, ◌⊎◌, Bool, true, false, cond, ◌&&◌, List, [], ◌∷◌, ◌++◌, leb, length, drop}
use Rattle.refusal.specs.Answer.{Answer, refused, accepted, and_then, or_kept}
use Rattle.rule.specs.Body.{body}
use Rattle.notation.specs.Notation.{Base, origin, infinity, position, Offset, nothing, plus, minus, End, end, Named, flag, negate, then, beside, forall, Rule, monitor, same, Reads}
use Rattle.notation.specs.Reading.{Joint, then_joint, beside_joint, reading}

-- ---- names. The names in scope, innermost first: variable 0 is the rule's own, "a quantifier nested under m others binds variable m + 1".

-- A name's variable plus 1, or 0 where it is bound nowhere; "an inner name may hide an outer one".
unfoldable pub seek : List (List ℕ) → List ℕ → ℕ
seek [] name = 0
seek (inner ∷ scope) name = cond (same inner name) (suc (length scope)) (seek scope name)

unfoldable pub is_bound : List (List ℕ) → List ℕ → Bool
is_bound scope name = leb 1 (seek scope name)

-- A variable's byte. (A text of 4,096 bytes has fewer than 256 variables in scope.)
unfoldable pub variable_byte : List (List ℕ) → List ℕ → ℕ
variable_byte scope name = (seek scope name - 1) % 256

-- ---- offsets

-- The number that digits say, in 16 bits. (Four digits always fit.)
unfoldable pub value_on : ℕ → List ℕ → ℕ
value_on number [] = number
value_on number (digit ∷ digits) = value_on ((number * 10 + (digit - 48)) % 65536) digits

unfoldable pub offset_word : Offset → ℕ
offset_word nothing = 0
offset_word (plus digits) = value_on 0 digits
offset_word (minus digits) = (65536 - value_on 0 digits) % 65536

-- ---- bytes

unfoldable pub base_bytes : List (List ℕ) → Base → List ℕ
base_bytes scope origin = 0 ∷ 0 ∷ []
base_bytes scope infinity = 1 ∷ 0 ∷ []
base_bytes scope (position name) = 2 ∷ variable_byte scope name ∷ []

unfoldable pub word_bytes : ℕ → List ℕ
word_bytes word = (word % 256) ∷ (word / 256 % 256) ∷ []

unfoldable pub end_bytes : List (List ℕ) → End → List ℕ
end_bytes scope (end base offset) = base_bytes scope base ++ word_bytes (offset_word offset)

unfoldable pub flag_bytes : List (List ℕ) → List ℕ → ℕ → List ℕ
flag_bytes scope name digit = 1 ∷ variable_byte scope name ∷ (digit - 48) ∷ []

unfoldable pub forall_bytes : List (List ℕ) → End → End → List ℕ
forall_bytes scope B₁ B₂ = 5 ∷ (end_bytes scope B₁ ++ end_bytes scope B₂)

abbrev pub joint_code : Joint → ℕ
joint_code then_joint = 3
joint_code beside_joint = 4

unfoldable pub formula_bytes : List (List ℕ) → Named → List ℕ
formula_bytes scope (flag name digit) = flag_bytes scope name digit
formula_bytes scope (negate F) = 2 ∷ formula_bytes scope F
formula_bytes scope (then F G) = 3 ∷ (formula_bytes scope F ++ formula_bytes scope G)
formula_bytes scope (beside F G) = 4 ∷ (formula_bytes scope F ++ formula_bytes scope G)
formula_bytes scope (forall name B₁ B₂ F) = forall_bytes scope B₁ B₂ ++ formula_bytes (name ∷ scope) F

-- ---- which names are bound

unfoldable pub base_bound : List (List ℕ) → Base → Bool
base_bound scope origin = true
base_bound scope infinity = true
base_bound scope (position name) = is_bound scope name

unfoldable pub end_bound : List (List ℕ) → End → Bool
end_bound scope (end base offset) = base_bound scope base

unfoldable pub all_bound : List (List ℕ) → Named → Bool
all_bound scope (flag name digit) = is_bound scope name
all_bound scope (negate F) = all_bound scope F
all_bound scope (then F G) = all_bound scope F && all_bound scope G
all_bound scope (beside F G) = all_bound scope F && all_bound scope G
all_bound scope (forall name B₁ B₂ F) = (end_bound scope B₁ && end_bound scope B₂) && all_bound (name ∷ scope) F

-- ---- the body: "misspelt text .. is 25 and an unbound name 26, in this order; then 01's refusals 4 to 10 .. apply to the result, and last 22
-- if the lent buffer is shorter than the body"

-- Bytes, if all names are bound.
abbrev pub if_bound : Bool → List ℕ → Answer (List ℕ)
if_bound resolved bytes = cond resolved (accepted bytes) (refused 26)

unfoldable pub named_body : Rule → Answer (List ℕ)
named_body (monitor name F) = if_bound (all_bound (name ∷ []) F) (formula_bytes (name ∷ []) F)

-- The body's bytes, before 01's refusals.
unfoldable pub translated : List ℕ → Answer (List ℕ)
translated text = and_then (reading text) named_body

unfoldable pub checked : List ℕ → Answer (List ℕ)
checked bytes = and_then (body bytes) (λ F. accepted bytes)

unfoldable pub fitted : ℕ → List ℕ → Answer (List ℕ)
fitted room bytes = cond (leb (length bytes) room) (accepted bytes) (refused 22)

unfoldable pub body_of_text : List ℕ → ℕ → Answer (List ℕ)
body_of_text text room = and_then (and_then (translated text) checked) (fitted room)

-- ---- the texts that are 25 and 26, said by `Reads` alone

-- Longer than a text may be, or without a reading.
abbrev pub Misspelt : List ℕ → Type 0
Misspelt text = (4096 < length text) ⊎ ((rule : Rule) → Reads text rule → ⊥)

-- With a reading in which some name is not bound.
abbrev pub Unbound : List ℕ → Type 0
Unbound text = (name : List ℕ) × (F : Named) × (length text ≤ 4096) × Reads text (monitor name F) × (all_bound (name ∷ []) F ≡ false)

-- ---- what is answered and what the lent buffer holds then: "if the lent buffer is shorter than the body, whose length is answered; bytes
-- after it keep their content"

abbrev pub length_of : Answer (List ℕ) → Answer ℕ
length_of (refused number) = refused number
length_of (accepted bytes) = accepted (length bytes)

abbrev pub buffer_with : Answer (List ℕ) → List ℕ → List ℕ
buffer_with answer out = or_kept (λ bytes. bytes ++ drop (length bytes) out) answer out

-- The promise of whoever writes `content` into a lent buffer `out`, and gives `answer`.
abbrev pub Writes : Answer (List ℕ) → Answer ℕ → List ℕ → List ℕ → Type 0
Writes content answer out out' = (answer ≡ length_of content) × (out' ≡ buffer_with content out)
