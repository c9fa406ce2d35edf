-- The numbers that a body is refused with: 4 to 10, 23 and 24. Assumes nothing.
use Prim.Native.Nat.{ℕ, zero, suc, ◌+◌, ◌-◌}
use mathlib.Core.Path.{◌≡◌, refl, sym, subst}
use mathlib.Core.Bool.{Bool, true, false, cond}
use mathlib.Core.List.{List}
use lib.Dec.{eqb}
use lib.ListN.{length}
use Rattle.words.specs.Words.{byte}
use Rattle.refusal.specs.Answer.{refused, accepted}
use Rattle.refusal.proofs.Answers.{not_accepted, same_refusal}
use Rattle.rule.specs.Formula.{Formula, negate, then, beside, forall}
use Rattle.rule.specs.Body.{Head, refuse, flag_head, negate_head, then_head, beside_head, forall_head, require_bound, after_code, head, Read, stop, read, one, two, parts, formula, formula_at, whole, body, OfABody}
use Rattle.rule.proofs.Reading.{require_holds, cond_holds}

-- ---- a formula's own bytes

abbrev OfAHead : Head → Type 0
OfAHead (refuse n) = OfABody n
OfAHead (flag_head v k) = Unit {0}
OfAHead negate_head = Unit {0}
OfAHead then_head = Unit {0}
OfAHead beside_head = Unit {0}
OfAHead (forall_head A B) = Unit {0}

bound_refusals : (s : List ℕ) (at m : ℕ) (next : Head) → OfAHead next → OfAHead (require_bound s at m next)
unfolding require_bound
bound_refusals s at m next h =
    require_holds P _ 5 _ refl (λ _. require_holds P _ 6 _ refl
    (λ _. require_holds P _ 23 _ refl (λ _. require_holds P _ 24 _ refl
    (λ _. require_holds P _ 8 _ refl (λ _. h)))))
  where
    P : Head → Type 0
    P = OfAHead

head_refusals : (s : List ℕ) (at m left : ℕ) → OfAHead (head s at m left)
unfolding head after_code
head_refusals s at m left =
    require_holds P _ 4 _ refl (λ _. require_holds P _ 5 _ refl
    (λ _. require_holds P _ 9 _ refl (λ _. require_holds P _ 9 _ refl
    (λ _. require_holds P _ 4 _ refl
    (λ _. cond_holds P (eqb c 1) _ _ (λ _. require_holds P _ 6 _ refl (λ _. require_holds P _ 7 _ refl (λ _. tt)))
    (λ _. cond_holds P (eqb c 2) _ _ (λ _. tt)
    (λ _. cond_holds P (eqb c 3) _ _ (λ _. tt)
    (λ _. cond_holds P (eqb c 4) _ _ (λ _. tt)
    (λ _. bound_refusals s (at + 1) m _ (bound_refusals s (at + 5) m _ tt))))))))))
  where
    c : ℕ
    c = byte s at

    P : Head → Type 0
    P = OfAHead

-- ---- a formula with its parts

abbrev OfARead : Read → Type 0
OfARead (stop n) = OfABody n
OfARead (read F next rest) = Unit {0}

one_refusals : (make : Formula → Formula) (r : Read) → OfARead r → OfARead (one make r)
unfolding one
one_refusals make (stop n) h = h
one_refusals make (read F next rest) h = tt

two_refusals : (make : Formula → Formula → Formula) (second : ℕ → ℕ → Read) (r : Read)
    → ((next rest : ℕ) → OfARead (second next rest)) → OfARead r → OfARead (two make second r)
unfolding two
two_refusals make second (stop n) g h = h
two_refusals make second (read F next rest) g h = one_refusals (make F) (second next rest) (g next rest)

parts_refusals : (part : ℕ → ℕ → ℕ → Read) → ((at m left : ℕ) → OfARead (part at m left))
    → (h : Head) (at m left : ℕ) → OfAHead h → OfARead (parts part h at m left)
unfolding parts
parts_refusals part p (refuse n) at m left h = h
parts_refusals part p (flag_head v k) at m left h = tt
parts_refusals part p negate_head at m left h = one_refusals negate (part (at + 1) m left) (p (at + 1) m left)
parts_refusals part p then_head at m left h =
    two_refusals then (λ next rest. part next m rest) (part (at + 1) m left) (λ next rest. p next m rest) (p (at + 1) m left)
parts_refusals part p beside_head at m left h =
    two_refusals beside (λ next rest. part next m rest) (part (at + 1) m left) (λ next rest. p next m rest) (p (at + 1) m left)
parts_refusals part p (forall_head A B) at m left h = one_refusals (forall A B) (part (at + 9) (m + 1) left) (p (at + 9) (m + 1) left)

formula_refusals : (n : ℕ) (s : List ℕ) (at m left : ℕ) → OfARead (formula n s at m left)
unfolding formula
formula_refusals zero s at m left = refl
formula_refusals (suc n) s at m left =
    parts_refusals (formula n s) (formula_refusals n s) (head s at m left) at m (left - 1) (head_refusals s at m left)

-- ---- the whole body

pub body_refusals : (s : List ℕ) (n : ℕ) → body s ≡ refused n → OfABody n
unfolding body whole formula_at
body_refusals s n e = go (formula 65 s 0 0 64) (formula_refusals 65 s 0 0 64) e
  where
    after : (b : Bool) (F : Formula) → cond b (accepted F) (refused 10) ≡ refused n → OfABody n
    after true F e = absurd (not_accepted (sym e))
    after false F e = subst OfABody (same_refusal e) refl

    go : (r : Read) → OfARead r → whole s r ≡ refused n → OfABody n
    go (stop k) h e = subst OfABody (same_refusal e) h
    go (read F next rest) h e = after (eqb next (length s)) F e
