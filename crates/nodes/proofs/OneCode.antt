-- A word stands for one code only.
use Prim.Native.Nat.{ℕ}
use mathlib.Core.Path.{◌≡◌, refl}
use native.Mathlib.Omega.{arith}
use Rattle.nodes.specs.declared.codes.Code.{Code}
use Rattle.nodes.specs.declared.codes.Code.TheVariants.{Flag, Not, Then, Beside, ForAll}
use Rattle.nodes.specs.Codes.{IsCode}

-- Whatever is no not.
pub not_2 : (word : ℕ) (code : Code) → IsCode word code → (code ≡ Not → ⊥) → word ≡ 2 → ⊥
not_2 word Flag is other e = is.0 e
not_2 word Not is other e = other refl
not_2 word Then is other e = omega (arith, is)
not_2 word Beside is other e = omega (arith, is)
not_2 word ForAll is other e = omega (arith, is)
