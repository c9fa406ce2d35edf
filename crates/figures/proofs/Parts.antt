-- The figures of each formula from its parts'.
use Prim.Native.Nat.{ℕ}
use mathlib.Core.Path.{◌≡◌, refl, sym, ap, ◌∙◌}
use mathlib.Core.Bool.{true, false}
use mathlib.Core.List.{List, [], ◌∷◌, ◌++◌}
use Rattle.rule.specs.Formula.{Bound, Formula, flag, negate, then, beside, forall}
use Rattle.rule.specs.Figures.{larger, range_pair, N, N_back, width, always_empty, unless_empty, delay, history, cells}
use Rattle.rule.specs.declared.Size.{Size}
use Rattle.rule.specs.declared.Pair.{Pair}
use Rattle.rule.proofs.AlwaysEmpty.{empty_delay, empty_history, empty_cells}
use Rattle.cell_count.specs.Counts.{cap, then_cells, beside_cells, range_cells}
use Rattle.cell_count.proofs.Saturation.{cap_then, cap_beside, cap_range}
use Rattle.figures.specs.declared.figure.Figure.{Figure}
use Rattle.figures.specs.Parts.{flag_figure, joined_figure, ranged_figure, then_figure, beside_figure, empty_figure, range_figure, FigureOf}

-- two parts' figures are joined with the cells that they need together
pub then_is : (f g : Figure) {r : Figure} {n : ℕ} → r ≡ joined_figure f g n → n ≡ then_cells f.cells g.cells → r ≡ then_figure f g
unfolding then_figure
then_is f g e i = e ∙ ap (joined_figure f g) i

pub beside_is : (f g : Figure) {r : Figure} {n : ℕ} → r ≡ joined_figure f g n → n ≡ beside_cells f.cells g.cells → r ≡ beside_figure f g
unfolding beside_figure
beside_is f g e i = e ∙ ap (joined_figure f g) i

pub range_is : (R : Pair) (k : Size) (f : Figure) {r : Figure} {h : Size} → r ≡ ranged_figure R h f → h ≡ N_back k R.lower → r ≡ range_figure R k f
unfolding range_figure
range_is R k f e i = e ∙ ap (λ (h : Size). ranged_figure R h f) i

pub flag_of : (v k : ℕ) (ps : List Pair) (start : Size) → FigureOf (flag v k) ps start flag_figure
unfolding flag_figure delay history cells
flag_of v k ps start = record { delay_is = refl; history_is = refl; cells_is = refl }

pub negate_of : (F : Formula) (ps : List Pair) (start : Size) (r : Figure) → FigureOf F ps start r → FigureOf (negate F) ps start r
unfolding delay history cells
negate_of F ps start r f = record { delay_is = f.delay_is; history_is = f.history_is; cells_is = f.cells_is }

module _ (F G : Formula) (ps : List Pair) (start k : Size) (f g : Figure) (x : FigureOf F ps start f) (y : FigureOf G ps k g) where
  delays : larger f.delay g.delay ≡ larger (delay F ps) (delay G ps)
  delays = ap (larger f.delay) y.delay_is ∙ ap (λ (d : Size). larger d (delay G ps)) x.delay_is

  histories : larger f.history g.history ≡ larger (history F ps start) (history G ps k)
  histories = ap (larger f.history) y.history_is ∙ ap (λ (d : Size). larger d (history G ps k)) x.history_is

  pub then_of : k ≡ larger start f.delay → FigureOf (then F G) ps start (then_figure f g)
  unfolding then_figure delay history cells
  then_of e =
      record {
        delay_is = delays;
        history_is = histories ∙ ap (λ (d : Size). larger (history F ps start) (history G ps d)) (e ∙ ap (larger start) x.delay_is);
        cells_is = ap (λ (n : ℕ). then_cells n g.cells) x.cells_is ∙ ap (then_cells (cap (cells F ps))) y.cells_is ∙ cap_then (cells F ps) (cells G ps);
      }

  pub beside_of : k ≡ start → FigureOf (beside F G) ps start (beside_figure f g)
  unfolding beside_figure delay history cells
  beside_of e =
      record {
        delay_is = delays;
        history_is = histories ∙ ap (λ (d : Size). larger (history F ps start) (history G ps d)) e;
        cells_is = ap (λ (n : ℕ). beside_cells n g.cells) x.cells_is ∙ ap (beside_cells (cap (cells F ps))) y.cells_is ∙ cap_beside (cells F ps) (cells G ps);
      }

pub empty_of : (B C : Bound) (F : Formula) (ps : List Pair) (start : Size) → always_empty (range_pair B C ps) ≡ true → FigureOf (forall B C F) ps start empty_figure
unfolding empty_figure
empty_of B C F ps start e =
    record {
      delay_is = sym (empty_delay B C F ps e);
      history_is = sym (empty_history B C F ps e start);
      cells_is = ap cap (sym (empty_cells B C F ps e));
    }

pub forall_of : (B C : Bound) (F : Formula) (ps : List Pair) (start : Size) (f : Figure) → always_empty (range_pair B C ps) ≡ false
    → FigureOf F (ps ++ (range_pair B C ps ∷ [])) (larger start (N (range_pair B C ps).upper)) f
    → FigureOf (forall B C F) ps start (range_figure (range_pair B C ps) start f)
unfolding range_figure delay history cells unless_empty
forall_of B C F ps start f e x =
    record {
      delay_is = rw e (ap (λ (d : Size). larger d (N (range_pair B C ps).upper)) x.delay_is);
      history_is = rw e (ap (larger (N_back start (range_pair B C ps).lower)) x.history_is);
      cells_is = ap (range_cells (cap (width (range_pair B C ps)))) x.cells_is ∙ cap_range (width (range_pair B C ps)) (cells F (ps ++ (range_pair B C ps ∷ [])));
    }
