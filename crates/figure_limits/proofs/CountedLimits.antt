-- The limits answer the same for a number of cells and for its count.
use Prim.Native.Nat.{ℕ, ◌≤◌, ◌<◌, min}
use mathlib.Core.Path.{◌≡◌, refl, ap, ◌∙◌}
use mathlib.Core.Logic.{◌⊎◌, inl, inr}
use mathlib.Core.Bool.{cond}
use native.Mathlib.Omega.{arith}
use lib.Dec.{leb}
use borrow.Author.Tests.{le-leb, lt-leb}
use Rattle.refusal.specs.Answer.{Answer, refused, accepted}
use Rattle.rule.specs.Figures.{limit_cells, limit_history, limit_delay, needed}
use Rattle.rule.specs.declared.Size.{Size}
use Rattle.rule.specs.declared.Size.TheVariants.{Finite, Unbounded}
use Rattle.rule.specs.declared.Figures.{Figures}
use Rattle.rule.proofs.Order.{by_order}
use Rattle.cell_count.specs.Counts.{cap}
use Rattle.cell_count.proofs.Saturation.{cap_rule}
use Rattle.figure_limits.specs.Answers.{capped_needed}

cells_limited : (h d : ℕ) (x : Size) → limit_cells h d (Finite (cap x)) ≡ limit_cells h d x
unfolding limit_cells
cells_limited h d Unbounded = refl
cells_limited h d (Finite c) = go (by_order c 4096)
  where
    go : (c ≤ 4096) ⊎ (4096 < c) → cond {A = Answer Figures} (leb (min c 4097) 4096) (accepted (record { history = h; delay = d; cells = min c 4097 })) (refused 15)
        ≡ cond {A = Answer Figures} (leb c 4096) (accepted (record { history = h; delay = d; cells = c })) (refused 15)
    go (inl i) = let e : min c 4097 ≡ c = omega arith in rw (e, le-leb c 4096 i)
    go (inr i) = let e : min c 4097 ≡ 4097 = omega arith in rw (e, lt-leb c 4096 i)

history_limited : (h : Size) (d : ℕ) (x : Size) → limit_history h d (capped_needed (Finite d) (cap x)) ≡ limit_history h d (needed (Finite d) x)
unfolding limit_history
history_limited Unbounded d x = refl
history_limited (Finite h) d x =
    ap (λ (a : Answer Figures). cond (leb h 4096) a (refused 14))
    (ap (λ (n : ℕ). limit_cells h d (Finite n)) (cap_rule d x) ∙ cells_limited h d (needed (Finite d) x))

pub capped_limits : (h d x : Size) → limit_delay h d (capped_needed d (cap x)) ≡ limit_delay h d (needed d x)
unfolding limit_delay
capped_limits h Unbounded x = refl
capped_limits h (Finite d) x = ap (λ (a : Answer Figures). cond (leb d 255) a (refused 12)) (history_limited h d x)
