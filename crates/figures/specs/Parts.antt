-- A formula's figures from its parts', as the code computes them: with cells that are counted up to 4,097.
use Rattle.std.specs.Prelude.{ℕ, ◌≡◌, List}
use Rattle.rule.specs.Formula.{Formula}
use Rattle.rule.specs.Figures.{larger, N, N_back, width, delay, history, cells}
use Rattle.rule.specs.declared.Size.{Size}
use Rattle.rule.specs.declared.Size.TheVariants.{Finite}
use Rattle.rule.specs.declared.Pair.{Pair}
use Rattle.cell_count.specs.Counts.{cap, then_cells, beside_cells, range_cells}
use Rattle.figures.specs.declared.figure.Figure.{Figure}

unfoldable pub flag_figure : Figure
flag_figure = record { delay = Finite 0; history = Finite 0; cells = 0 }

-- Of two parts, with the cells that they need together.
abbrev pub joined_figure : Figure → Figure → ℕ → Figure
joined_figure first second cells =
    record { delay = larger first.delay second.delay; history = larger first.history second.history; cells = cells }

unfoldable pub then_figure : Figure → Figure → Figure
then_figure first second = joined_figure first second (then_cells first.cells second.cells)

unfoldable pub beside_figure : Figure → Figure → Figure
beside_figure first second = joined_figure first second (beside_cells first.cells second.cells)

-- A range that is always empty; any other range.
unfoldable pub empty_figure : Figure
empty_figure = record { delay = Finite 0; history = Finite 0; cells = 1 }

abbrev pub ranged_figure : Pair → Size → Figure → Figure
ranged_figure pair own_history figure =
    record {
      delay = larger figure.delay (N pair.upper);
      history = larger own_history figure.history;
      cells = range_cells (cap (width pair)) figure.cells;
    }

unfoldable pub range_figure : Pair → Size → Figure → Figure
range_figure pair k figure = ranged_figure pair (N_back k pair.lower) figure

-- The figures of a formula whose variables have the pairs `ps`, started at `start` at the latest.
pub record FigureOf (F : Formula) (ps : List Pair) (start : Size) (figure : Figure) : Type 0 where
  pub delay_is : figure.delay ≡ delay F ps
  pub history_is : figure.history ≡ history F ps start
  pub cells_is : figure.cells ≡ cap (cells F ps)
