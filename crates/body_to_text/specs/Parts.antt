-- The text of a formula of the node table, and of what stands before and between its parts.
use Rattle.std.specs.Prelude.{ℕ, ◌+◌, ◌-◌, List, [], ◌++◌}
use Rattle.rule.specs.Formula.{Formula}
use Rattle.nodes.specs.Table.{bound_at, formula_in}
use Rattle.notation.specs.Notation.{End, forall_sign, in_sign, to_sign, colon_sign, then_sign, beside_sign, end_text, formula_text, text}
use Rattle.notation.specs.Printing.{variable_name, end_named, named, rule_named}
use Rattle.body_to_text.specs.declared.formula.Place.{Place}
use Rattle.body_to_text.specs.Storing.{Adds}
use Rattle.body_to_text.specs.declared.writer.Writer.{Writer}
use Rattle.nodes.specs.declared.codes.Code.{Code}
use Rattle.nodes.specs.declared.codes.Code.TheVariants.{Flag, Not, Then, Beside, ForAll}
use Rattle.body_to_text.specs.Writable.{FlagsFit}

-- "&&" for "then", and "/\" for "beside".
abbrev pub sign_text : Code → List ℕ
sign_text Then = then_sign
sign_text Beside = beside_sign
sign_text Flag = beside_sign
sign_text Not = beside_sign
sign_text ForAll = beside_sign

-- What a quantifier has before its part.
unfoldable pub range_text : List ℕ → End → End → List ℕ
range_text name B₁ B₂ = forall_sign ++ (name ++ (in_sign ++ (end_text B₁ [] ++ (to_sign ++ (end_text B₂ [] ++ colon_sign)))))

-- .. of the quantifier at word `node` of the table, which binds `variable`.
abbrev pub range_at : List ℕ → ℕ → ℕ → List ℕ
range_at nodes node variable = range_text (variable_name variable) (end_named (bound_at nodes (node + 1))) (end_named (bound_at nodes (node + 4)))

-- The formula at a place of the table.
abbrev pub formula_there : List ℕ → Place → Formula
formula_there nodes place = formula_in place.left nodes place.depth place.node

-- The place of a part of it: inside `depth` quantifiers, at word `node`.
abbrev pub part_place : Place → ℕ → ℕ → Place
part_place place depth node = record { left = place.left - 1; depth = depth; node = node }

-- Its text is stored, if each of its flags has one digit.
pub record Printed (nodes : List ℕ) (place : Place) (old new : Writer) : Type 0 where
  pub stored : FlagsFit (formula_there nodes place) → Adds (formula_text (named place.depth (formula_there nodes place)) []) old new

-- The text of the rule whose table is filled.
abbrev pub rule_text : List ℕ → List ℕ
rule_text nodes = text (rule_named (formula_in 64 nodes 0 0))
