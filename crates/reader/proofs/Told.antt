-- What the body reader's answer says of the body and of the table.
use Prim.Native.Nat.{ℕ}
use mathlib.Core.Path.{◌≡◌, ap, sym, ◌∙◌, subst}
use mathlib.Core.List.{List}
use Rattle.std.specs.Prelude.{Result, Ok, Err}
use Rattle.refusal.specs.Answer.{refused, accepted}
use Rattle.refusal.specs.Numbers.{number_of}
use Rattle.refusal.specs.declared.Refusal.{Refusal}
use Rattle.rule.specs.Formula.{Formula}
use Rattle.rule.specs.Body.{body}
use Rattle.nodes.specs.Table.{formula_in, Cleared}
use Rattle.reader.specs.Decoded.{reading_answer, TableHolds, Tabled, Decoded}

module _ {s : List ℕ} {r : Result (Unit {0}) Refusal} {ns : List ℕ} (d : Decoded s r ns) where
  pub refused_body : {x : Refusal} → r ≡ Err x → body s ≡ refused (number_of x)
  refused_body e = sym d.answer ∙ ap (λ (q : Result (Unit {0}) Refusal). reading_answer q ns) e

  pub refused_table : {x : Refusal} → r ≡ Err x → Cleared ns
  refused_table e = subst (Tabled ns) (refused_body e) d.tabled

  -- The body's formula, and that it stands in the table.
  pub read_formula : {u : Unit {0}} → r ≡ Ok u → (F : Formula) × (body s ≡ accepted F) × TableHolds F ns
  read_formula e =
      let b : body s ≡ accepted (formula_in 64 ns 0 0) = sym d.answer ∙ ap (λ (q : Result (Unit {0}) Refusal). reading_answer q ns) e in
      (formula_in 64 ns 0 0, b, subst (Tabled ns) b d.tabled)
