-- A formula with the sizes that its node table carries: what the engine reads off a table.
use Rattle.std.specs.Prelude.{ℕ, zero, suc, ◌+◌, ◌*◌, ◌≤◌, ◌<◌, max, ◌≡◌, ◌⊎◌, cond, List, [], ◌∷◌, ◌++◌, eqb, get_or, length}
use Rattle.rule.specs.Formula.{Bound, Formula, flag, negate, then, beside, forall}
use Rattle.rule.specs.Figures.{range_pair, width}
use Rattle.rule.specs.declared.Pair.{Pair}
use Rattle.rule.specs.Positions.{Within}
use Rattle.nodes.specs.Table.{bound_at}
use Rattle.cell_count.specs.Counts.{cap}

pub data Tree : Type 0 where
  flag_node : ℕ → ℕ → Tree
  not_node : Tree → Tree
  then_node : Tree → Tree → Tree
  beside_node : ℕ → Tree → Tree → Tree  -- the words of the first part's run
  range_node : Bound → Bound → ℕ → Tree → Tree  -- the words of one position's slot

unfoldable pub formula_of : Tree → Formula
formula_of (flag_node variable k) = flag variable k
formula_of (not_node F) = negate (formula_of F)
formula_of (then_node F G) = then (formula_of F) (formula_of G)
formula_of (beside_node size F G) = beside (formula_of F) (formula_of G)
formula_of (range_node B₁ B₂ size F) = forall B₁ B₂ (formula_of F)

-- The tree at word `node` of a node table, read off with `left` formulas left (crates/nodes says the layout); a flag where none is left.
unfoldable pub tree_at : ℕ → List ℕ → ℕ → Tree
tree_at zero ns node = flag_node (get_or ns (node + 1) 0) (get_or ns (node + 2) 0)
tree_at (suc left) ns node =
    cond (eqb (get_or ns (node + 0) 0) 2) (not_node (tree_at left ns (node + 12)))
    (cond (eqb (get_or ns (node + 0) 0) 3) (then_node (tree_at left ns (node + 12)) (tree_at left ns (get_or ns (node + 7) 0)))
    (cond (eqb (get_or ns (node + 0) 0) 4) (beside_node (get_or ns (node + 9) 0) (tree_at left ns (node + 12)) (tree_at left ns (get_or ns (node + 7) 0)))
    (cond (eqb (get_or ns (node + 0) 0) 5) (range_node (bound_at ns (node + 1)) (bound_at ns (node + 4)) (get_or ns (node + 8) 0) (tree_at left ns (node + 12)))
    (flag_node (get_or ns (node + 1) 0) (get_or ns (node + 2) 0)))))

-- It is no flag.
abbrev pub HasParts : ℕ → List ℕ → ℕ → Type 0
HasParts left ns node = (left ≡ 0 → ⊥) × ((2 ≤ get_or ns (node + 0) 0) × (get_or ns (node + 0) 0 ≤ 5))

-- The words of a formula's run, where the variables have the pairs `ps`: 01's cells, four words each. A range has a slot for each of its W
-- positions, which are counted up to 4,097.
unfoldable pub words : List Pair → Tree → ℕ
words ps (flag_node variable k) = 0
words ps (not_node F) = words ps F
words ps (then_node F G) = 4 + max (words ps F) (words ps G)
words ps (beside_node size F G) = 4 + size + words ps G
words ps (range_node B₁ B₂ size F) = 4 + cap (width (range_pair B₁ B₂ ps)) * size

-- Where the variables have the pairs `ps`, a range's W is its count, the sizes are enough, each flag's variable is bound and at most 4 quantifiers
-- are nested. The body of a range with no position is never looked at, and its sizes may be anything: nothing is asked of it.
unfoldable pub Formed : List Pair → Tree → Type 0
Formed ps (flag_node variable k) = variable < length ps
Formed ps (not_node F) = Formed ps F
Formed ps (then_node F G) = Formed ps F × Formed ps G
Formed ps (beside_node size F G) = (words ps F ≤ size) × (Formed ps F × Formed ps G)
Formed ps (range_node B₁ B₂ size F) =
    (length ps < 5)
    × (Within (width (range_pair B₁ B₂ ps)) (cap (width (range_pair B₁ B₂ ps)))
    × ((cap (width (range_pair B₁ B₂ ps)) ≡ 0)
    ⊎ ((4 + words (ps ++ (range_pair B₁ B₂ ps ∷ [])) F ≤ size) × Formed (ps ++ (range_pair B₁ B₂ ps ∷ [])) F)))
