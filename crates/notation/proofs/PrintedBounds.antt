-- Names and bounds as they are printed: every name is spelt and bound to its own variable, and a bound has its own bytes again.
use Prim.Native.Nat.{ℕ, zero, suc, ◌+◌, ◌≤◌}
use mathlib.Core.Path.{◌≡◌, refl}
use mathlib.Core.Bool.{true}
use mathlib.Core.List.{List, [], ◌∷◌}
use native.Mathlib.Omega.{arith}
use lib.ListN.{length, length-append}
use borrow.Author.Tests.{le-leb}
use Rattle.rule.specs.Formula.{Bound}
use Rattle.rule.specs.Formula as plain
use Rattle.rule.proofs.Written.{LegalBound, bound_bytes}
use Rattle.notation.specs.Notation.{base_text, offset_text, end_text, between, all, same, reserved, is_name, SpeltEnd}
use Rattle.notation.specs.Bodies.{seek, is_bound, variable_byte, offset_word, word_bytes, base_bytes, end_bytes, base_bound, end_bound}
use Rattle.notation.specs.Printing.{variable_name, offset_named, end_named}
use Rattle.notation.proofs.PrintedOffsets.{offset_spelt, offset_bytes_back, offset_short}

-- ---- names

-- The names in scope inside m quantifiers, innermost first.
unfoldable pub scope : ℕ → List (List ℕ)
scope zero = variable_name zero ∷ []
scope (suc m) = variable_name (suc m) ∷ scope m

pub variable_spelt : (v : ℕ) → is_name (variable_name v) ≡ true
unfolding variable_name is_name all between reserved same
variable_spelt zero = refl
variable_spelt (suc zero) = refl
variable_spelt (suc (suc zero)) = refl
variable_spelt (suc (suc (suc zero))) = refl
variable_spelt (suc (suc (suc (suc v)))) = refl

pub variable_short : (v : ℕ) → length (variable_name v) ≡ 1
unfolding variable_name
variable_short zero = refl
variable_short (suc zero) = refl
variable_short (suc (suc zero)) = refl
variable_short (suc (suc (suc zero))) = refl
variable_short (suc (suc (suc (suc v)))) = refl

-- The five names differ, so each variable is found by its own.
variable_found : (m v : ℕ) → m ≤ 4 → v ≤ m → seek (scope m) (variable_name v) ≡ suc v
unfolding scope seek same variable_name
variable_found zero zero h k = refl
variable_found (suc zero) zero h k = refl
variable_found (suc zero) (suc zero) h k = refl
variable_found (suc (suc zero)) zero h k = refl
variable_found (suc (suc zero)) (suc zero) h k = refl
variable_found (suc (suc zero)) (suc (suc zero)) h k = refl
variable_found (suc (suc (suc zero))) zero h k = refl
variable_found (suc (suc (suc zero))) (suc zero) h k = refl
variable_found (suc (suc (suc zero))) (suc (suc zero)) h k = refl
variable_found (suc (suc (suc zero))) (suc (suc (suc zero))) h k = refl
variable_found (suc (suc (suc (suc zero)))) zero h k = refl
variable_found (suc (suc (suc (suc zero)))) (suc zero) h k = refl
variable_found (suc (suc (suc (suc zero)))) (suc (suc zero)) h k = refl
variable_found (suc (suc (suc (suc zero)))) (suc (suc (suc zero))) h k = refl
variable_found (suc (suc (suc (suc zero)))) (suc (suc (suc (suc zero)))) h k = refl
variable_found zero (suc v) h k = absurd (omega arith)
variable_found (suc zero) (suc (suc v)) h k = absurd (omega arith)
variable_found (suc (suc zero)) (suc (suc (suc v))) h k = absurd (omega arith)
variable_found (suc (suc (suc zero))) (suc (suc (suc (suc v)))) h k = absurd (omega arith)
variable_found (suc (suc (suc (suc zero)))) (suc (suc (suc (suc (suc v))))) h k = absurd (omega arith)
variable_found (suc (suc (suc (suc (suc m))))) v h k = absurd (omega arith)

module _ (m v : ℕ) (h : m ≤ 4) (k : v ≤ m) where
  pub variable_bound : is_bound (scope m) (variable_name v) ≡ true
  unfolding is_bound
  variable_bound = rw (variable_found m v h k) (le-leb 1 (suc v) (omega arith))

  pub variable_back : variable_byte (scope m) (variable_name v) ≡ v
  unfolding variable_byte
  variable_back = rw (variable_found m v h k) (omega arith)

-- ---- bounds

pub end_spelt : (B : Bound) → SpeltEnd (end_named B)
unfolding end_named
end_spelt (plain.origin z) = (tt, offset_spelt z)
end_spelt plain.infinity = (tt, tt)
end_spelt (plain.variable v z) = (variable_spelt v, offset_spelt z)

pub end_in_scope : (m : ℕ) (B : Bound) → m ≤ 4 → LegalBound m B → end_bound (scope m) (end_named B) ≡ true
unfolding end_named end_bound base_bound
end_in_scope m (plain.origin z) h l = refl
end_in_scope m plain.infinity h l = refl
end_in_scope m (plain.variable v z) h l = variable_bound m v h l.0

pub end_back : (m : ℕ) (B : Bound) → m ≤ 4 → LegalBound m B → end_bytes (scope m) (end_named B) ≡ bound_bytes B
unfolding end_named end_bytes base_bytes word_bytes offset_word bound_bytes
end_back m (plain.origin z) h l = rw (offset_bytes_back z l)
end_back m plain.infinity h l = refl
end_back m (plain.variable v z) h l = rw (variable_back m v h l.0, offset_bytes_back z l.1)

pub end_short : (B : Bound) (r : List ℕ) → length (end_text (end_named B) r) ≤ 8 + length r
unfolding end_named end_text base_text offset_text
end_short (plain.origin z) r = omega (arith, offset_short z r)
end_short plain.infinity r = omega arith
end_short (plain.variable v z) r = omega (arith, variable_short v, length-append (variable_name v) (offset_text (offset_named z) r), offset_short z r)
