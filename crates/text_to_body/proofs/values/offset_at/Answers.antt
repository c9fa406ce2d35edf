-- `text_to_body::values::offset_at` meets its contract.
use Prim.Native.Nat.{ℕ, ◌-◌, ◌%◌}
use mathlib.Core.Path.{sym, ap, ◌∙◌}
use mathlib.Core.List.{[], ◌∷◌}
use native.Mathlib.Omega.{arith}
use Rattle.text_pieces.proofs.Finding.{word_fits}
use Rattle.text_to_body.proofs.Scopes.{plus_word, minus_word, no_word}
use Rattle.text_to_body.proofs.values.offset_at.Goals as goal

pub overflow_add-at : goal.overflow_add-at
overflow_add-at c =
    let a = c.args in
    let w = word_fits a.text.now (43 ∷ []) a.at (omega arith) (sym c.starts_at.ensures ∙ c.if-starts_at.true) in omega (arith, w)

pub returns-then-starts_at : goal.returns-then-starts_at
returns-then-starts_at c =
    let a = c.args in
    (c.value_at.ensures.1, λ o t e. c.value_at.ensures.0 ∙ sym (plus_word a.text.now a.at o t e (sym c.starts_at.ensures ∙ c.if-starts_at.true)))

pub overflow_add-at-then-starts_at-2 : goal.overflow_add-at-then-starts_at-2
overflow_add-at-then-starts_at-2 c =
    let a = c.args in
    let w = word_fits a.text.now (45 ∷ []) a.at (omega arith) (sym c.starts_at-else-starts_at.ensures ∙ c.if-starts_at-2.true) in omega (arith, w)

pub returns-then-starts_at-2 : goal.returns-then-starts_at-2
returns-then-starts_at-2 c =
    let a = c.args in
    let v = c.value_at-then-starts_at-2.ensures.0 in
    let e₁ = sym c.starts_at.ensures ∙ c.if-starts_at.false in
    let e₂ = sym c.starts_at-else-starts_at.ensures ∙ c.if-starts_at-2.true in
    (omega arith, λ o t e. ap (λ (n : ℕ). (65536 - n) % 65536) v ∙ sym (minus_word a.text.now a.at o t e e₁ e₂))

pub returns-else-starts_at-2 : goal.returns-else-starts_at-2
returns-else-starts_at-2 c =
    let a = c.args in
    let e₁ = sym c.starts_at.ensures ∙ c.if-starts_at.false in
    let e₂ = sym c.starts_at-else-starts_at.ensures ∙ c.if-starts_at-2.false in
    (omega arith, λ o t e. sym (no_word a.text.now a.at o t e e₁ e₂))
