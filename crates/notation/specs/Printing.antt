-- The way back: a body as a rule in the notation, with the names x, y, z, u, v by nesting, and its text.
use Rattle.std.specs.Prelude.{ℕ, zero, suc, ◌+◌, ◌/◌, ◌%◌, cond, List, [], ◌∷◌, ltb, ℤ, pos, negsuc}
use Rattle.refusal.specs.Answer.{Answer, and_then}
use Rattle.rule.specs.Formula.{Bound, Formula}
use Rattle.rule.specs.Formula as plain
use Rattle.rule.specs.Body.{body}
use Rattle.notation.specs.Notation.{Offset, nothing, plus, minus, End, end, Named, Rule, origin, infinity, position, flag, negate, then, beside, forall, monitor, text}
use Rattle.notation.specs.Bodies.{fitted}

-- x, y, z, u, v for the variables 0 to 4. (No legal body has another.)
unfoldable pub variable_name : ℕ → List ℕ
variable_name zero = 120 ∷ []
variable_name (suc zero) = 121 ∷ []
variable_name (suc (suc zero)) = 122 ∷ []
variable_name (suc (suc (suc zero))) = 117 ∷ []
variable_name (suc (suc (suc (suc above)))) = 118 ∷ []

-- ---- offsets: none for 0, else the sign and the digits with no 0 before them

-- The digit worth 1, 10, 100 or 1,000.
abbrev pub digit_of : ℕ → ℕ → ℕ
digit_of number worth = 48 + number / worth % 10

unfoldable pub digits : ℕ → List ℕ
digits number =
    cond (ltb number 10) (digit_of number 1 ∷ [])
    (cond (ltb number 100) (digit_of number 10 ∷ digit_of number 1 ∷ [])
    (cond (ltb number 1000) (digit_of number 100 ∷ digit_of number 10 ∷ digit_of number 1 ∷ [])
    (digit_of number 1000 ∷ digit_of number 100 ∷ digit_of number 10 ∷ digit_of number 1 ∷ [])))

unfoldable pub offset_named : ℤ → Offset
offset_named (pos zero) = nothing
offset_named (pos (suc n)) = plus (digits (suc n))
offset_named (negsuc n) = minus (digits (suc n))

-- ---- bounds, formulas and the rule

unfoldable pub end_named : Bound → End
end_named (plain.origin offset) = end origin (offset_named offset)
end_named plain.infinity = end infinity nothing
end_named (plain.variable variable offset) = end (position (variable_name variable)) (offset_named offset)

-- A formula inside `depth` quantifiers.
unfoldable pub named : ℕ → Formula → Named
named depth (plain.flag variable k) = flag (variable_name variable) (48 + k)
named depth (plain.negate F) = negate (named depth F)
named depth (plain.then F G) = then (named depth F) (named depth G)
named depth (plain.beside F G) = beside (named depth F) (named depth G)
named depth (plain.forall B₁ B₂ F) = forall (variable_name (suc depth)) (end_named B₁) (end_named B₂) (named (suc depth) F)

unfoldable pub rule_named : Formula → Rule
rule_named F = monitor (variable_name 0) (named 0 F)

-- A body's text: 01's refusals of the body, and last 22 if the lent buffer is shorter than the text.
unfoldable pub text_of_body : List ℕ → ℕ → Answer (List ℕ)
text_of_body bytes room = and_then (body bytes) (λ F. fitted room (text (rule_named F)))
