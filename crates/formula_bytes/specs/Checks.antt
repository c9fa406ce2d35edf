-- The refusal of what the definition reads as a number, and 0 where there is none.
use Rattle.std.specs.Prelude.{ℕ}
use Rattle.rule.specs.Body.{Head, refuse, flag_head, negate_head, then_head, beside_head, forall_head}

abbrev pub head_number : Head → ℕ
head_number (refuse number) = number
head_number (flag_head variable k) = 0
head_number negate_head = 0
head_number then_head = 0
head_number beside_head = 0
head_number (forall_head B₁ B₂) = 0
