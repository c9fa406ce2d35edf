-- `text_to_body::scope::Scope::write_base` meets its contract.
use Prim.Native.Nat.{ℕ, ◌-◌, ◌%◌}
use mathlib.Core.Path.{refl, sym, ap, ◌∙◌}
use mathlib.Core.List.{[], ◌∷◌, ◌++◌}
use lib.ListN.{take}
use Rattle.notation.specs.Bodies.{base_bound, base_bytes, is_bound, variable_byte}
use Rattle.text_to_body.proofs.Scopes.{is_origin, is_infinity, is_position, sought_bound}
use Rattle.text_to_body.proofs.scope.Scope.write_base.Goals as goal

pub returns-then-starts_at : goal.returns-then-starts_at
unfolding base_bound base_bytes
returns-then-starts_at c =
    let a = c.args in (
      c.put_two.ensures.0,
      λ b t e. let q = is_origin a.self.now.text.now a.at b t e (sym c.starts_at.ensures ∙ c.if-starts_at.true) in
          (rw q refl, rw q c.put_two.ensures.1),
    )

pub returns-then-is_word : goal.returns-then-is_word
unfolding base_bound base_bytes
returns-then-is_word c =
    let a = c.args in (
      c.put_two-then-is_word.ensures.0,
      λ b t e. let q = is_infinity a.self.now.text.now a.at b t e (sym c.starts_at.ensures ∙ c.if-starts_at.false) (sym c.is_word.ensures ∙ c.if-is_word.true) in
          (rw q refl, rw q c.put_two-then-is_word.ensures.1),
    )

pub returns : goal.returns
unfolding base_bound base_bytes is_bound variable_byte
returns c =
    let a = c.args in
    let v = c.variable-found.ensures in
    let y = c.variable_byte.ensures ∙ ap (λ (n : ℕ). (n - 1) % 256) v in (
      c.put_two-2.ensures.0,
      λ b t e. let q = is_position a.self.now.text.now a.at b t e (sym c.starts_at.ensures ∙ c.if-starts_at.false) (sym c.is_word.ensures ∙ c.if-is_word.false) in
          (rw q (c.is_some.ensures ∙ sought_bound c.variable-found.result _ v), rw q (c.put_two-2.ensures.1 ∙ ap (λ (x : ℕ). take a.written a.out.now ++ (2 ∷ x ∷ [])) y)),
    )
