-- How long a body can be: 64 formulas and 4 nested quantifiers make at most 432 bytes. Assumes nothing.
use Prim.Native.Nat.{ℕ, zero, suc, ◌+◌, ◌-◌, ◌*◌, ◌≤◌}
use mathlib.Core.Path.{◌≡◌, refl, ap, ◌∙◌}
use mathlib.Core.List.{List, ◌++◌}
use native.Mathlib.Omega.{arith}
use lib.Dec.{eqb}
use lib.ListN.{length, length-append}
use borrow.Author.Tests.{eqb-true}
use Rattle.refusal.specs.Answer.{accepted}
use Rattle.refusal.proofs.Answers.{not_accepted, same_value, passed}
use Rattle.rule.specs.Formula.{Bound, origin, infinity, variable, Formula, flag, negate, then, beside, forall, formulas}
use Rattle.rule.specs.Body.{Head, refuse, flag_head, negate_head, then_head, beside_head, forall_head, head, Read, stop, read, one, two, parts, formula, formula_at, whole, body}
use Rattle.rule.proofs.Written.{bound_bytes, formula_bytes, Legal}
use Rattle.rule.proofs.OneBody.{body_accepted}

-- ---- the bytes of a formula

bound_length : (B : Bound) → length (bound_bytes B) ≡ 4
unfolding bound_bytes
bound_length (origin z) = refl
bound_length infinity = refl
bound_length (variable v z) = refl

forall_length : (A B : Bound) (F : Formula) → length (formula_bytes (forall A B F)) ≡ 9 + length (formula_bytes F)
unfolding formula_bytes
forall_length A B F =
    omega (
      arith,
      bound_length A,
      bound_length B,
      length-append (bound_bytes A) (bound_bytes B ++ formula_bytes F),
      length-append (bound_bytes B) (formula_bytes F),
    )

-- Inside m quantifiers. The longest are flags under 4 quantifiers each, 39 bytes for 5 formulas, joined by one of 1 byte: 20 bytes for 3
-- formulas.
pub formula_short : (m : ℕ) (F : Formula) → m ≤ 4 → Legal m F → 3 * length (formula_bytes F) + 7 * m + 11 ≤ 20 * formulas F + 28
unfolding formula_bytes formulas
formula_short m (flag v k) h l = omega arith
formula_short m (negate F) h l = omega (arith, formula_short m F h l)
formula_short m (then F G) h l =
    omega (arith, formula_short m F h l.0, formula_short m G h l.1, length-append (formula_bytes F) (formula_bytes G))
formula_short m (beside F G) h l =
    omega (arith, formula_short m F h l.0, formula_short m G h l.1, length-append (formula_bytes F) (formula_bytes G))
formula_short m (forall A B F) h l = omega (arith, l.0, formula_short (suc m) F (omega arith) l.3, forall_length A B F)

-- ---- a formula that was read: where it ends

abbrev Ends : ℕ → Read → Type 0
Ends at (stop n) = Unit {0}
Ends at (read F next rest) = next ≡ at + length (formula_bytes F)

one_ends : (make : Formula → Formula) (at at' : ℕ) (r : Read)
    → ((F : Formula) → at' + length (formula_bytes F) ≡ at + length (formula_bytes (make F))) → Ends at' r → Ends at (one make r)
unfolding one
one_ends make at at' (stop n) h k = tt
one_ends make at at' (read F next rest) h k = k ∙ h F

two_ends : (make : Formula → Formula → Formula) (at at' : ℕ) (second : ℕ → ℕ → Read) (r : Read)
    → ((F G : Formula) → at' + length (formula_bytes F) + length (formula_bytes G) ≡ at + length (formula_bytes (make F G)))
    → ((next rest : ℕ) → Ends next (second next rest)) → Ends at' r → Ends at (two make second r)
unfolding two
two_ends make at at' second (stop n) h l k = tt
two_ends make at at' second (read F next rest) h l k =
    one_ends (make F) at next (second next rest) (λ G. ap (λ x. x + length (formula_bytes G)) k ∙ h F G) (l next rest)

parts_end : (part : ℕ → ℕ → ℕ → Read) → ((at m left : ℕ) → Ends at (part at m left)) → (h : Head) (at m left : ℕ) → Ends at (parts part h at m left)
unfolding parts formula_bytes
parts_end part p (refuse n) at m left = tt
parts_end part p (flag_head v k) at m left = refl
parts_end part p negate_head at m left = one_ends negate at (at + 1) (part (at + 1) m left) (λ F. omega arith) (p (at + 1) m left)
parts_end part p then_head at m left =
    two_ends then at (at + 1) (λ next rest. part next m rest) (part (at + 1) m left)
    (λ F G. omega (arith, length-append (formula_bytes F) (formula_bytes G))) (λ next rest. p next m rest) (p (at + 1) m left)
parts_end part p beside_head at m left =
    two_ends beside at (at + 1) (λ next rest. part next m rest) (part (at + 1) m left)
    (λ F G. omega (arith, length-append (formula_bytes F) (formula_bytes G))) (λ next rest. p next m rest) (p (at + 1) m left)
parts_end part p (forall_head A B) at m left =
    one_ends (forall A B) at (at + 9) (part (at + 9) (m + 1) left) (λ F. omega (arith, forall_length A B F)) (p (at + 9) (m + 1) left)

formula_ends : (n : ℕ) (s : List ℕ) (at m left : ℕ) → Ends at (formula n s at m left)
unfolding formula
formula_ends zero s at m left = tt
formula_ends (suc n) s at m left = parts_end (formula n s) (formula_ends n s) (head s at m left) at m (left - 1)

-- ---- the whole body

-- An accepted body is as long as its formula's bytes.
pub body_length : (s : List ℕ) (F : Formula) → body s ≡ accepted F → length s ≡ length (formula_bytes F)
unfolding body whole formula_at
body_length s F e = go (formula 65 s 0 0 64) (formula_ends 65 s 0 0 64) e
  where
    go : (r : Read) → Ends 0 r → whole s r ≡ accepted F → length s ≡ length (formula_bytes F)
    go (stop n) a e = absurd (not_accepted e)
    go (read G next rest) a e =
        let p = passed (eqb next (length s)) (accepted G) 10 F e in
        omega (arith, eqb-true next (length s) p.0, a, ap (λ x. length (formula_bytes x)) (same_value p.1))

pub body_short : (s : List ℕ) (F : Formula) → body s ≡ accepted F → length s ≤ 432
body_short s F e =
    let a = body_accepted s F e in
    omega (arith, body_length s F e, a.few, formula_short 0 F (omega arith) a.legal)
