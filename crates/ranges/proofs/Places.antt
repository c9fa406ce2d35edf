-- The positions of variables, all at most t: so they are after one more is set.
use Prim.Native.Nat.{ℕ, zero, suc, ◌≤◌}
use mathlib.Core.List.{List, [], ◌∷◌}
use native.Mathlib.Omega.{arith}
use lib.ListN.{get_or, set}

pub set_within : (l : List ℕ) (j q t : ℕ) → ((v : ℕ) → get_or l v 0 ≤ t) → q ≤ t → (v : ℕ) → get_or (set l j q) v 0 ≤ t
set_within [] j q t h k v = omega (arith, h v)
set_within (x ∷ l) zero q t h k zero = k
set_within (x ∷ l) zero q t h k (suc v) = h (suc v)
set_within (x ∷ l) (suc j) q t h k zero = h zero
set_within (x ∷ l) (suc j) q t h k (suc v) = set_within l j q t (λ w. h (suc w)) k v
