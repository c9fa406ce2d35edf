-- The tree of a rule's formula, and the trees that node tables prepared for the rule hold.
use Rattle.std.specs.Prelude.{◌+◌, ◌*◌, ◌≡◌, false, List, [], ◌∷◌, ◌++◌}
use Rattle.rule.specs.Formula.{Formula, flag, negate, then, beside, forall}
use Rattle.rule.specs.Figures.{range_pair, always_empty, cells}
use Rattle.rule.specs.declared.Pair.{Pair}
use Rattle.cell_count.specs.Counts.{cap}
use Rattle.cell_runs.specs.Tree.{Tree, flag_node, not_node, then_node, beside_node, range_node, formula_of}

-- With the sizes that crate `figures` writes, of cells that are counted up to 4,097: within the limits these are 01's figures.
unfoldable pub sized : Formula → List Pair → Tree
sized (flag variable k) ps = flag_node variable k
sized (negate F) ps = not_node (sized F ps)
sized (then F G) ps = then_node (sized F ps) (sized G ps)
sized (beside F G) ps = beside_node (4 * cap (cells F ps)) (sized F ps) (sized G ps)
sized (forall B₁ B₂ F) ps =
    range_node B₁ B₂ (4 * (1 + cap (cells F (ps ++ (range_pair B₁ B₂ ps ∷ [])))))
    (sized F (ps ++ (range_pair B₁ B₂ ps ∷ [])))

-- A tree with these sizes, but for ranges that are always empty: a table has no size for these, the words of their bodies are as the reader left them,
-- and neither changes what a step does.
unfoldable pub RightSizes : List Pair → Tree → Type 0
RightSizes ps (flag_node variable k) = Unit {0}
RightSizes ps (not_node F) = RightSizes ps F
RightSizes ps (then_node F G) = RightSizes ps F × RightSizes ps G
RightSizes ps (beside_node size F G) = (size ≡ 4 * cap (cells (formula_of F) ps)) × (RightSizes ps F × RightSizes ps G)
RightSizes ps (range_node B₁ B₂ size F) =
    always_empty (range_pair B₁ B₂ ps) ≡ false
    → (size ≡ 4 * (1 + cap (cells (formula_of F) (ps ++ (range_pair B₁ B₂ ps ∷ []))))) × RightSizes (ps ++ (range_pair B₁ B₂ ps ∷ [])) F
