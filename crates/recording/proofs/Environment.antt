-- Laws of the environment: the positions that are bound, one more, and that it stays ready.
use Prim.Native.Nat.{ℕ, suc, ◌+◌, ◌*◌, ◌-◌, ◌≤◌, ◌<◌}
use mathlib.Core.Path.{◌≡◌, sym, ap, ◌∙◌, subst}
use mathlib.Core.Logic.{◌⊎◌, inl, inr}
use mathlib.Core.List.{[], ◌∷◌, ◌++◌}
use native.Mathlib.Numerals.{add-one}
use native.Mathlib.Omega.{arith}
use lib.ListN.{length, get_or, take, length-take, length-set, get_or-eq_default}
use lib.Seq.{take-suc-set, get_or-take, get_or-set_other}
use Rattle.rule.proofs.Order.{by_order}
use Rattle.ranges.proofs.Places.{set_within}
use Rattle.recording.specs.declared.env.Env.{Env}
use Rattle.recording.specs.Evaluating.{bound_positions, entered, Evaluable}

-- The position of any variable, as the definitions have it.
pub place_at : {left i t : ℕ} {e : Env} → Evaluable left i t e → (v : ℕ) → get_or e.pos v 0 ≡ get_or (bound_positions e) v 0
place_at {left} {i} {t} {e} r v = go (by_order v e.depth)
  where
    go : (v ≤ e.depth) ⊎ (e.depth < v) → get_or e.pos v 0 ≡ get_or (bound_positions e) v 0
    go (inl h) = sym (get_or-take (suc e.depth) e.pos v 0 (omega arith))
    go (inr h) = r.clear v h ∙ sym (get_or-eq_default (bound_positions e) 0 (omega (arith, length-take (suc e.depth) e.pos)))

-- ---- inside one more quantifier

pub places_more : (e : Env) (q : ℕ) → length e.pos ≡ 5 → e.depth < 4 → bound_positions (entered e q) ≡ bound_positions e ++ (q ∷ [])
places_more e q l h = take-suc-set e.pos (e.depth + 1) q (omega arith) ∙ ap (λ (n : ℕ). take n e.pos ++ (q ∷ [])) (add-one e.depth)

-- ---- ready for a part

pub ready_part : {left i j t : ℕ} {e : Env} → Evaluable left i t e → (left ≡ 0 → ⊥) → j + 12 * (left - 1) ≤ 4294968064 → Evaluable (left - 1) j t e
ready_part r h k =
    record { few = omega (arith, r.few); near = k; early = r.early; nested = r.nested; five = r.five; clear = r.clear; within = r.within }

-- for a range, which leaves its body one formula fewer
pub ready_range : {left i t : ℕ} {e : Env} → Evaluable left i t e → (left ≡ 0 → ⊥) → Evaluable (suc (left - 1)) i t e
ready_range r h =
    record { few = omega (arith, r.few); near = omega (arith, r.near); early = r.early; nested = r.nested; five = r.five; clear = r.clear; within = r.within }

pub ready_body : {left i t : ℕ} (e : Env) (q : ℕ) {e' : Env} → Evaluable (suc left) i t e → e.depth < 4 → q ≤ t → e' ≡ entered e q → Evaluable left (i + 12) t e'
ready_body {left} {i} {t} e q {e'} r h k x = subst (Evaluable left (i + 12) t) (sym x) inside
  where
    inside : Evaluable left (i + 12) t (entered e q)
    inside =
        record {
          few = omega (arith, r.few);
          near = omega (arith, r.near);
          early = r.early;
          nested = omega arith;
          five = length-set e.pos (e.depth + 1) q ∙ r.five;
          clear = λ v a. get_or-set_other e.pos (e.depth + 1) v q 0 (λ b. omega arith) ∙ r.clear v (omega arith);
          within = set_within e.pos (e.depth + 1) q t r.within k;
        }
