-- Small signed numbers: what is read back from their bits, and how large sums and differences are.
use Prim.Native.Nat.{ℕ, zero, suc, ◌+◌, ◌≤◌, ◌<◌}
use mathlib.Core.Path.{◌≡◌, refl}
use mathlib.Core.Logic.{◌⊎◌, inl, inr}
use mathlib.Core.List.{List, [], ◌∷◌}
use native.Mathlib.Omega.{arith}
use lib.ListN.{length, get_or}
use lib.IntN.{ℤ, pos, negsuc, nat_abs, ◌+ℤ◌, ◌-ℤ◌}
use mir.Syntax.{w64}
use mir.Val.{SFits, to_z, of_z}
use mir.ValLaws.{to_z-of_z}
use Rattle.rule.proofs.Signed.{sum_parts, sub_parts-ℤ, apart}
use Rattle.rule.specs.Meaning.{raised}
use Rattle.rule.specs.Positions.{sunk}

abbrev pub bits : ℤ → ℤ
bits z = to_z w64 (of_z w64 z)

pub abs_parts : (z : ℤ) → nat_abs z ≡ raised z + sunk z
abs_parts (pos n) = omega arith
abs_parts (negsuc n) = omega arith

pub abs_sum : (a b : ℤ) → nat_abs (a +ℤ b) ≤ nat_abs a + nat_abs b
abs_sum a b = go (apart (a +ℤ b))
  where
    go : (raised (a +ℤ b) ≡ 0) ⊎ (sunk (a +ℤ b) ≡ 0) → nat_abs (a +ℤ b) ≤ nat_abs a + nat_abs b
    go (inl e) = omega (arith, abs_parts a, abs_parts b, abs_parts (a +ℤ b), sum_parts a b)
    go (inr e) = omega (arith, abs_parts a, abs_parts b, abs_parts (a +ℤ b), sum_parts a b)

pub abs_difference : (a b : ℤ) → nat_abs (a -ℤ b) ≤ nat_abs a + nat_abs b
abs_difference a b = go (apart (a -ℤ b))
  where
    go : (raised (a -ℤ b) ≡ 0) ⊎ (sunk (a -ℤ b) ≡ 0) → nat_abs (a -ℤ b) ≤ nat_abs a + nat_abs b
    go (inl e) = omega (arith, abs_parts a, abs_parts b, abs_parts (a -ℤ b), sub_parts-ℤ a b)
    go (inr e) = omega (arith, abs_parts a, abs_parts b, abs_parts (a -ℤ b), sub_parts-ℤ a b)

small_fits : (z : ℤ) → nat_abs z ≤ 4000000 → SFits w64 z
small_fits (pos n) h = record { sfits = omega arith }
small_fits (negsuc n) h = record { sfits = omega arith }

pub bits_are : (z : ℤ) → nat_abs z ≤ 4000000 → bits z ≡ z
bits_are z h = to_z-of_z w64 z (small_fits z h)

-- an element that is there does not depend on the default
pub get_d_any {ℓ} : {A : Type ℓ} (l : List A) (v : ℕ) (d e : A) → v < length l → get_or l v d ≡ get_or l v e
get_d_any [] v d e h = absurd (omega arith)
get_d_any (x ∷ l) zero d e h = refl
get_d_any (x ∷ l) (suc v) d e h = get_d_any l v d e (omega arith)
