-- A product that is tested before it is multiplied: for a above 0, a times b is above the limit where b is above 4,096 / a.
use Prim.Native.Nat.{ℕ, ◌*◌, ◌/◌, ◌<◌}
use native.Mathlib.Omega.{arith}
use native.Mathlib.Nat.{mul_comm, div-lt_iff_lt-mul}

pub above : (a b : ℕ) → 0 < a → 4096 / a < b → 4096 < a * b
above a b p h = omega (arith, (div-lt_iff_lt-mul {k = a} {x = 4096} {y = b} p).0 h, mul_comm a b)
