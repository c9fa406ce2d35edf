-- A "for all" of the node table.
use Rattle.std.specs.Prelude.{ℕ, ◌+◌, cond, List, ltb}
use Rattle.rule.specs.Formula.{Formula, flag, forall}
use Rattle.nodes.specs.Table.{bound_at, formula_in}

-- The "for all" whose node starts at word `node`, inside `depth` quantifiers, its body read off with `left` formulas left: what formula-in makes of code 5.
abbrev pub forall_of_node : ℕ → List ℕ → ℕ → ℕ → Formula
forall_of_node left ns depth node =
    cond (ltb depth 4) (forall (bound_at ns (node + 1)) (bound_at ns (node + 4)) (formula_in left ns (depth + 1) (node + 12))) (flag 0 0)
