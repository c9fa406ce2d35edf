-- The sizes that the engine needs, in the words 8 and 9 of a node, and what measuring a formula answers and writes.
use Rattle.std.specs.Prelude.{ℕ, ◌+◌, ◌*◌, ◌≤◌, ◌<◌, ◌≡◌, ◌⊎◌, false, List, [], ◌∷◌, ◌++◌, length, get_or}
use Rattle.rule.specs.Formula.{Formula, flag, negate, then, beside, forall}
use Rattle.rule.specs.Figures.{range_pair, always_empty, cells}
use Rattle.rule.specs.declared.Size.{Size}
use Rattle.rule.specs.declared.Pair.{Pair}
use Rattle.nodes.specs.Table.{Holds}
use Rattle.cell_count.specs.Counts.{cap}
use Rattle.figures.specs.declared.scope.Scope.{Scope}
use Rattle.figures.specs.declared.figure.Figure.{Figure}
use Rattle.figures.specs.Distances.{Modest}
use Rattle.figures.specs.Scopes.{inside}
use Rattle.figures.specs.Parts.{FigureOf}

-- Beside: word 9 is the words of the first part's run. For all: word 8 is the words of one position's slot. Both are made of cells that are
-- counted up to 4,097: within the limits these are 01's figures. A range that is always empty has no size, and nothing is said of the sizes in its body: a
-- step never comes there.
unfoldable pub SizesAt : Formula → List ℕ → List Pair → ℕ → Type 0
SizesAt (flag variable k) ns ps node = Unit {0}
SizesAt (negate F) ns ps node = SizesAt F ns ps (node + 12)
SizesAt (then F G) ns ps node = SizesAt F ns ps (node + 12) × SizesAt G ns ps (get_or ns (node + 7) 0)
SizesAt (beside F G) ns ps node =
    (get_or ns (node + 9) 0 ≡ 4 * cap (cells F ps)) × (SizesAt F ns ps (node + 12) × SizesAt G ns ps (get_or ns (node + 7) 0))
SizesAt (forall B₁ B₂ F) ns ps node =
    always_empty (range_pair B₁ B₂ ps) ≡ false
    → (get_or ns (node + 8) 0 ≡ 4 * (1 + cap (cells F (ps ++ (range_pair B₁ B₂ ps ∷ [])))))
    × SizesAt F ns (ps ++ (range_pair B₁ B₂ ps ∷ [])) (node + 12)

-- What measuring the formula F in the words from `node` to `end` answers and writes.
pub record Measured (F : Formula) (ps : List Pair) (k : Size) (depth node end : ℕ) (old new : List ℕ) (result : Figure) : Type 0 where
  pub figure : FigureOf F ps k result
  pub holds : Holds F new depth node end
  pub sizes : SizesAt F new ps node
  pub outside : (index : ℕ) → (index < node) ⊎ (end ≤ index) → get_or new index 0 ≡ get_or old index 0

abbrev pub Promise : ℕ → ℕ → ℕ → List Pair → Size → List ℕ → List ℕ → Figure → Type 0
Promise left depth node ps k old new result =
    (F : Formula) (end : ℕ) → Holds F old depth node end → end ≤ node + 12 * left → end ≤ length old → Measured F ps k depth node end old new result

-- Of any table: the figures are small enough to go on with. Of a table that holds a formula: they are its figures.
pub record Measures (left node : ℕ) (scope : Scope) (k : Size) (old new : List ℕ) (result : Figure) : Type 0 where
  pub small : result.cells ≤ 4097
  pub modest : Modest result.delay
  pub promise : Promise left scope.depth node (inside scope) k old new result
