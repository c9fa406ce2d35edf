-- A run of nots: what stands under it is ready where it is, and its outcome is turned where the nots are odd in number.
use Prim.Native.Nat.{ℕ, ◌+◌}
use mathlib.Core.Path.{◌≡◌, sym, ap, subst, ◌∙◌}
use mathlib.Core.Bool.{false, cond}
use mathlib.Core.List.{List}
use native.Mathlib.Omega.{arith}
use Rattle.rule.specs.declared.Outcome.{Outcome}
use Rattle.rule.specs.Formula.{Formula}
use Rattle.rule.specs.Meaning.{opposite, outcome}
use Rattle.outcomes.proofs.Opposites.{one_more, turned_back}
use Rattle.nodes.specs.Table.{formula_in}
use Rattle.nodes.specs.declared.operand.Operand.{Operand}
use Rattle.nodes.specs.Nots.{past_nots}
use Rattle.nodes.proofs.Nots.{over_nots}
use Rattle.recording.specs.declared.env.Env.{Env}
use Rattle.recording.specs.Evaluating.{Evaluable}
use Rattle.recording.proofs.Environment.{ready_part}
use Rattle.naming.proofs.Nodes.{negate_next}

module _ (ns : List ℕ) (left i : ℕ) (u : Operand) (e : u ≡ past_nots left ns i false) where
  pub ready_nots : {t : ℕ} {env : Env} → Evaluable left i t env → Evaluable u.left u.node t env
  ready_nots {t} {env} =
      over_nots ns (λ odd n j. Evaluable n j t env → Evaluable u.left u.node t env)
      (λ odd n j c below r. below (subst (λ (k : ℕ). Evaluable k (j + 12) t env) (omega arith) (ready_part r (λ z. omega arith) (omega (arith, r.near)))))
      left i false u e (λ r. r)

  pub by_nots : (m : ℕ) (flags : ℕ → ℕ) (t : ℕ) (env : List ℕ) (s : ℕ) (o r : Outcome) → o ≡ outcome (formula_in u.left ns m u.node) flags t env s
      → r ≡ cond u.odd (opposite o) o → r ≡ outcome (formula_in left ns m i) flags t env s
  unfolding outcome
  by_nots m flags t env s o r eo er =
      over_nots ns (λ odd n j. cond odd (opposite r) r ≡ outcome (formula_in n ns m j) flags t env s)
      (λ odd n j c below.
      one_more odd r ∙ ap opposite below ∙ sym (ap (λ (F : Formula). outcome F flags t env s) (negate_next n ns m j c)))
      left i false u e (sym (turned_back u.odd o r er) ∙ eo)
