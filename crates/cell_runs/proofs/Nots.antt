-- A run of nots: it has the run of what stands under it, and turns the outcome where it is odd in number.
use Prim.Native.Nat.{ℕ, ◌+◌}
use mathlib.Core.Path.{◌≡◌, sym, subst}
use mathlib.Core.Bool.{false, cond, not}
use mathlib.Core.List.{List}
use Rattle.rule.specs.declared.Outcome.{Outcome}
use Rattle.rule.specs.Meaning.{opposite}
use Rattle.outcomes.proofs.Opposites.{one_more, turned_back}
use Rattle.nodes.specs.declared.operand.Operand.{Operand}
use Rattle.nodes.specs.Nots.{past_nots}
use Rattle.nodes.proofs.Nots.{over_nots}
use Rattle.cell_runs.specs.Tree.{Tree, tree_at}
use Rattle.cell_runs.specs.Calls.{Variables, Fit, Advanced}
use Rattle.cell_runs.proofs.Formulas.{is_not, not_of}
use Rattle.cell_runs.proofs.Fits.{fit_not}

module _ (ns : List ℕ) (left i : ℕ) (u : Operand) (e : u ≡ past_nots left ns i false) where
  pub fit_nots : {env : Variables} {t len : ℕ} → Fit (tree_at left ns i) env t len → Fit (tree_at u.left ns u.node) env t len
  fit_nots {env} {t} {len} =
      over_nots ns (λ odd n j. Fit (tree_at n ns j) env t len → Fit (tree_at u.left ns u.node) env t len)
      (λ odd n j c below f. below (fit_not (subst (λ (F : Tree). Fit F env t len) (is_not ns j n c) f))) left i false u e (λ f. f)

  pub nots_of : {hist : List ℕ} {b : ℕ} {env : Variables} {s t : ℕ} {run : List ℕ} (o r : Outcome) (run' : List ℕ)
      → Advanced (tree_at u.left ns u.node) hist b env s t run o run' → r ≡ cond u.odd (opposite o) o → Advanced (tree_at left ns i) hist b env s t run r run'
  nots_of {hist} {b} {env} {s} {t} {run} o r run' adv er =
      over_nots ns (λ odd n j. Advanced (tree_at n ns j) hist b env s t run (cond odd (opposite r) r) run')
      (λ odd n j c below.
      subst (λ (F : Tree). Advanced F hist b env s t run (cond odd (opposite r) r) run') (sym (is_not ns j n c))
      (not_of (tree_at n ns (j + 12)) (cond (not odd) (opposite r) r) (cond odd (opposite r) r) run' below (one_more odd r)))
      left i false u e (subst (λ (x : Outcome). Advanced (tree_at u.left ns u.node) hist b env s t run x run') (turned_back u.odd o r er) adv)
