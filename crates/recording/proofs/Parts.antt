-- The outcome of a formula from those of its parts, as the evaluator makes it.
use Prim.Native.Nat.{ℕ}
use mathlib.Core.Path.{◌≡◌, refl, sym, ap, ap₂, ◌∙◌}
use mathlib.Core.Bool.{Bool, true, false≢true}
use mathlib.Core.List.{List}
use lib.ListN.{get_or}
use borrow.Author.Tests.{leb-true}
use Rattle.rule.specs.declared.Verdict.{Verdict}
use Rattle.rule.specs.declared.Verdict.TheVariants.{True, False}
use Rattle.rule.specs.declared.Outcome.{Outcome}
use Rattle.rule.specs.declared.Outcome.TheVariants.{Decided, Open}
use Rattle.rule.specs.Formula.{Formula, flag, then, beside}
use Rattle.rule.specs.Meaning.{verdict, up, both, after, outcome}
use Rattle.rule.specs.Recording.{recorded}
use Rattle.rule.specs.Started.{From}
use Rattle.rule.proofs.Horizon.{from_less, from_start}
use Rattle.rule.proofs.Conjunction.{both_comm, both_settled}
use Rattle.recording.specs.Evaluating.{false_by}

-- what is not decided before s changes nothing beside what is false by then
pub settled_both : (o p : Outcome) (s : ℕ) → false_by o s ≡ true → From s p → o ≡ both o p
settled_both (Decided True d) p s h k = absurd (false≢true h)
settled_both (Decided False d) p s h k = sym (both_comm (Decided False d) p ∙ both_settled d p (from_less p (leb-true d s h) k))
settled_both Open p s h k = absurd (false≢true h)

module _ (rec : List ℕ) (t : ℕ) (env : List ℕ) (s : ℕ) where
  pub by_flag : {F : Formula} {v k p : ℕ} {r : Outcome} → F ≡ flag v k → p ≡ get_or env v 0 → r ≡ Decided (verdict (up k (recorded rec p))) s
      → r ≡ outcome F (recorded rec) t env s
  unfolding outcome
  by_flag {v = v} {k = k} e f g = rw e (g ∙ ap (λ (q : ℕ). Decided (verdict (up k (recorded rec q))) s) f)

  pub by_same : {F G : Formula} {r : Outcome} → F ≡ G → r ≡ outcome G (recorded rec) t env s → r ≡ outcome F (recorded rec) t env s
  by_same e f = rw e f

  pub by_beside : {F G H : Formula} {o p r : Outcome} → F ≡ beside G H → o ≡ outcome G (recorded rec) t env s → p ≡ outcome H (recorded rec) t env s
      → r ≡ both o p → r ≡ outcome F (recorded rec) t env s
  unfolding outcome
  by_beside e f g h = rw e (h ∙ ap₂ both f g)

  -- F false at s, before which G is not decided
  pub beside_settled : {F G H : Formula} {o : Outcome} {b : Bool} → F ≡ beside G H → o ≡ outcome G (recorded rec) t env s → b ≡ false_by o s → b ≡ true
      → o ≡ outcome F (recorded rec) t env s
  beside_settled {H = H} {o = o} e f x y =
      by_beside e f refl (settled_both o (outcome H (recorded rec) t env s) s (sym x ∙ y) (from_start H (recorded rec) t env s))

  -- F then G, by F's outcome
  by_then : {F G H : Formula} {o r : Outcome} → F ≡ then G H → o ≡ outcome G (recorded rec) t env s → r ≡ after o (λ d. outcome H (recorded rec) t env d)
      → r ≡ outcome F (recorded rec) t env s
  unfolding outcome
  by_then {H = H} e f g = rw e (g ∙ ap (λ (x : Outcome). after x (λ d. outcome H (recorded rec) t env d)) f)

  pub then_true : {F G H : Formula} {o r : Outcome} {v : Verdict} {d : ℕ} → F ≡ then G H → o ≡ outcome G (recorded rec) t env s
      → o ≡ Decided v d → v ≡ True → r ≡ outcome H (recorded rec) t env d → r ≡ outcome F (recorded rec) t env s
  unfolding after
  then_true e f x y g = by_then e f (rw (x, y) g)

  pub then_false : {F G H : Formula} {o : Outcome} {v : Verdict} {d : ℕ} → F ≡ then G H → o ≡ outcome G (recorded rec) t env s
      → o ≡ Decided v d → v ≡ False → o ≡ outcome F (recorded rec) t env s
  unfolding after
  then_false e f x y = by_then e f (rw (x, y))

  pub then_open : {F G H : Formula} {o : Outcome} → F ≡ then G H → o ≡ outcome G (recorded rec) t env s → o ≡ Open → o ≡ outcome F (recorded rec) t env s
  unfolding after
  then_open e f x = by_then e f (rw x)
