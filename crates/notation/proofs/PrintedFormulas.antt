-- A legal formula as it is printed: it is spelt, its names are bound, its bytes are the formula's own again, and its text is short.
use Prim.Native.Nat.{ℕ, suc, ◌+◌, ◌-◌, ◌*◌, ◌≤◌}
use mathlib.Core.Path.{◌≡◌}
use mathlib.Core.Bool.{true}
use mathlib.Core.List.{List, ◌∷◌, ◌++◌, append_assoc}
use native.Mathlib.Omega.{arith}
use lib.ListN.{length, length-append}
use Rattle.rule.specs.Formula.{Formula, formulas}
use Rattle.rule.specs.Formula as plain
use Rattle.rule.proofs.Written.{Legal, bound_bytes}
use Rattle.rule.proofs.Written as written
use Rattle.notation.specs.Notation.{in_sign, to_sign, colon_sign, then_sign, beside_sign, end_text, formula_text, Spelt}
use Rattle.notation.specs.Bodies.{flag_bytes, forall_bytes, formula_bytes, all_bound}
use Rattle.notation.specs.Printing.{variable_name, end_named, named}
use Rattle.notation.proofs.PrintedOffsets.{digit_true}
use Rattle.notation.proofs.PrintedBounds.{scope, variable_spelt, variable_short, variable_bound, variable_back, end_spelt, end_in_scope, end_back, end_short}

pub named_spelt : (m : ℕ) (F : Formula) → Legal m F → Spelt (named m F)
unfolding named
named_spelt m (plain.flag v k) l = (variable_spelt v, digit_true k (omega arith))
named_spelt m (plain.negate F) l = named_spelt m F l
named_spelt m (plain.then F G) l = (named_spelt m F l.0, named_spelt m G l.1)
named_spelt m (plain.beside F G) l = (named_spelt m F l.0, named_spelt m G l.1)
named_spelt m (plain.forall A B F) l = (variable_spelt (suc m), end_spelt A, end_spelt B, named_spelt (suc m) F l.3)

pub named_bound : (m : ℕ) (F : Formula) → m ≤ 4 → Legal m F → all_bound (scope m) (named m F) ≡ true
unfolding named all_bound scope
named_bound m (plain.flag v k) h l = variable_bound m v h l.0
named_bound m (plain.negate F) h l = named_bound m F h l
named_bound m (plain.then F G) h l = rw (named_bound m F h l.0, named_bound m G h l.1)
named_bound m (plain.beside F G) h l = rw (named_bound m F h l.0, named_bound m G h l.1)
named_bound m (plain.forall A B F) h l = rw (end_in_scope m A h l.1, end_in_scope m B h l.2, named_bound (suc m) F (omega arith) l.3)

pub named_back : (m : ℕ) (F : Formula) → m ≤ 4 → Legal m F → formula_bytes (scope m) (named m F) ≡ written.formula_bytes F
unfolding named formula_bytes flag_bytes forall_bytes written.formula_bytes scope
named_back m (plain.flag v k) h l = let e : 48 + k - 48 ≡ k = omega arith in rw (variable_back m v h l.0, e)
named_back m (plain.negate F) h l = rw (named_back m F h l)
named_back m (plain.then F G) h l = rw (named_back m F h l.0, named_back m G h l.1)
named_back m (plain.beside F G) h l = rw (named_back m F h l.0, named_back m G h l.1)
named_back m (plain.forall A B F) h l =
    rw (
      end_back m A h l.1,
      end_back m B h l.2,
      named_back (suc m) F (omega arith) l.3,
      append_assoc (bound_bytes A) (bound_bytes B) (written.formula_bytes F),
    )

-- "forall y in infinity..infinity : ", 33 bytes, is the longest text before a formula's parts.
pub named_short : (m : ℕ) (F : Formula) (r : List ℕ) → length (formula_text (named m F) r) ≤ 33 * formulas F + length r
unfolding named formula_text formulas
named_short m (plain.flag v k) r = omega (arith, variable_short v, length-append (variable_name v) (46 ∷ (48 + k) ∷ r))
named_short m (plain.negate F) r = omega (arith, named_short m F r)
named_short m (plain.then F G) r =
    omega (arith, named_short m F (then_sign ++ formula_text (named m G) (41 ∷ r)), named_short m G (41 ∷ r))
named_short m (plain.beside F G) r =
    omega (arith, named_short m F (beside_sign ++ formula_text (named m G) (41 ∷ r)), named_short m G (41 ∷ r))
named_short m (plain.forall A B F) r =
    let f = formula_text (named (suc m) F) r in
    let b = end_text (end_named B) (colon_sign ++ f) in
    let a = end_text (end_named A) (to_sign ++ b) in
    omega (
      arith,
      named_short (suc m) F r,
      end_short B (colon_sign ++ f),
      end_short A (to_sign ++ b),
      variable_short (suc m),
      length-append (variable_name (suc m)) (in_sign ++ a),
    )
