-- Positions clamped to 2^62: one by one, and unchanged where all are at most that.
use Prim.Native.Nat.{ℕ, zero, suc, ◌≤◌}
use mathlib.Core.Path.{◌≡◌, refl, ap₂}
use mathlib.Core.List.{List, [], ◌∷◌}
use native.Mathlib.Omega.{arith}
use lib.ListN.{get_or}
use Rattle.rule.specs.Ticks.{clamped_at}
use Rattle.ranges.specs.Clamped.{clamped}

pub clamped_at_same : {t : ℕ} → t ≤ 4611686018427387904 → clamped_at t ≡ t
clamped_at_same h = omega arith

pub getD_clamped : (qs : List ℕ) (v : ℕ) → get_or (clamped qs) v 0 ≡ clamped_at (get_or qs v 0)
unfolding clamped
getD_clamped [] v = refl
getD_clamped (q ∷ qs) zero = refl
getD_clamped (q ∷ qs) (suc v) = getD_clamped qs v

pub clamped_same : (qs : List ℕ) → ((v : ℕ) → get_or qs v 0 ≤ 4611686018427387904) → clamped qs ≡ qs
unfolding clamped
clamped_same [] h = refl
clamped_same (q ∷ qs) h = ap₂ ◌∷◌ (clamped_at_same (h 0)) (clamped_same qs (λ v. h (suc v)))
