-- The start law: a later start only raises the step of the outcome.
use Prim.Native.Nat.{ℕ, zero, suc, ◌-◌, ◌≤◌, min, max}
use mathlib.Core.Path.{◌≡◌, refl, sym, ap, ap₂, ◌∙◌}
use mathlib.Core.Bool.{Bool, true, false, cond}
use mathlib.Core.List.{List, [], ◌∷◌, ◌++◌}
use native.Mathlib.Omega.{arith}
use lib.Dec.{leb}
use lib.ListN.{get_or}
use Rattle.rule.specs.declared.Verdict.TheVariants.{True, False}
use Rattle.rule.specs.declared.Outcome.{Outcome}
use Rattle.rule.specs.declared.Outcome.TheVariants.{Decided, Open}
use Rattle.rule.specs.Formula.{Formula, flag, negate, then, beside, forall}
use Rattle.rule.specs.declared.Range.{Range}
use Rattle.rule.specs.declared.Range.TheVariants.{Empty, Through, Onward}
use Rattle.rule.specs.Meaning.{verdict, up, opposite, both, after, range, walk, seen, every, outcome}
use Rattle.rule.specs.Started.{raise}
use Rattle.rule.proofs.Conjunction.{max_assoc}

-- ---- `raise` goes through the operations

max_least : (s a b : ℕ) → max s (min a b) ≡ min (max s a) (max s b)
max_least s a b = omega arith

max_largest : (s a b : ℕ) → max s (max a b) ≡ max (max s a) (max s b)
max_largest s a b = omega arith

max_start : (r s : ℕ) → r ≤ s → s ≡ max s r
max_start r s h = omega arith

-- twice is once, to the larger step
pub raise_twice : (r s : ℕ) (o : Outcome) → raise r (raise s o) ≡ raise (max r s) o
unfolding raise
raise_twice r s (Decided v d) = ap (Decided v) (sym (max_assoc r s d))
raise_twice r s Open = refl

raise_opposite : (s : ℕ) (o : Outcome) → raise s (opposite o) ≡ opposite (raise s o)
unfolding opposite raise
raise_opposite s (Decided v d) = refl
raise_opposite s Open = refl

raise_both : (s : ℕ) (a b : Outcome) → raise s (both a b) ≡ both (raise s a) (raise s b)
unfolding both raise
raise_both s (Decided False a) (Decided False b) = ap (Decided False) (max_least s a b)
raise_both s (Decided False a) (Decided True b) = refl
raise_both s (Decided False a) Open = refl
raise_both s (Decided True a) (Decided False b) = refl
raise_both s (Decided True a) (Decided True b) = ap (Decided True) (max_largest s a b)
raise_both s (Decided True a) Open = refl
raise_both s Open (Decided False b) = refl
raise_both s Open (Decided True b) = refl
raise_both s Open Open = refl

raise_after : (s : ℕ) (o : Outcome) (start : ℕ → Outcome) → ((d e : ℕ) → start (max d e) ≡ raise d (start e))
    → raise s (after o start) ≡ after (raise s o) start
unfolding after raise
raise_after s (Decided True d) start h = sym (h s d)
raise_after s (Decided False d) start h = refl
raise_after s Open start h = refl

raise_seen : (s t q : ℕ) (o : Outcome) → raise s (seen t q o) ≡ seen t q (raise s o)
unfolding seen raise
raise_seen s t q o = go (leb q t)
  where
    go : (b : Bool) → raise s (cond b o Open) ≡ cond b (raise s o) Open
    go true = refl
    go false = refl

raise_walk : (s : ℕ) (f g : ℕ → Outcome) → ((q : ℕ) → g q ≡ raise s (f q)) → (n q : ℕ) (d e : Outcome) → e ≡ raise s d
    → walk g n q e ≡ raise s (walk f n q d)
unfolding walk
raise_walk s f g h zero q d e k = k
raise_walk s f g h (suc n) q d e k = ap₂ both (h q) (raise_walk s f g h n (suc q) d e k) ∙ sym (raise_both s (f q) (walk f n (suc q) d))

raise_every : (r s : ℕ) → r ≤ s → (x : Range) (f g : ℕ → Outcome) (t : ℕ) → ((q : ℕ) → g q ≡ raise s (f q))
    → every x g t s ≡ raise s (every x f t r)
unfolding every raise
raise_every r s i Empty f g t h = ap (Decided True) (max_start r s i)
raise_every r s i (Through first last) f g t h =
    raise_walk s f g h (suc last - first) first (Decided True r) (Decided True s) (ap (Decided True) (max_start r s i))
raise_every r s i (Onward first) f g t h = raise_walk s f g h (suc t - first) first Open Open refl

-- ---- the law

-- Outcomes by their start: each is that of any earlier start, raised.
abbrev Rises : (ℕ → Outcome) → Type 0
Rises f = (r s : ℕ) → r ≤ s → f s ≡ raise s (f r)

rises_max : (f : ℕ → Outcome) → Rises f → (d e : ℕ) → f (max d e) ≡ raise d (f e)
rises_max f h d e = h 0 (max d e) (omega arith) ∙ sym (raise_twice d e (f 0)) ∙ ap (raise d) (sym (h 0 e (omega arith)))

-- "Position q starts its body at max(s, q)."
rises_seen : (t r s q : ℕ) (f : ℕ → Outcome) → r ≤ s → Rises f → seen t q (f (max s q)) ≡ raise s (seen t q (f (max r q)))
rises_seen t r s q f h k =
    ap (λ (x : ℕ). seen t q (f x)) (later r s q h) ∙ ap (seen t q) (rises_max f k s (max r q)) ∙ sym (raise_seen s t q (f (max r q)))
  where
    later : (r s q : ℕ) → r ≤ s → max s q ≡ max s (max r q)
    later r s q h = omega arith

-- Started at s, a formula has the outcome that it has started at an earlier step r, raised to s.
pub start_law : (F : Formula) (flags : ℕ → ℕ) (t : ℕ) (env : List ℕ) (r s : ℕ) → r ≤ s → outcome F flags t env s ≡ raise s (outcome F flags t env r)
unfolding outcome raise
start_law (flag v k) flags t env r s h = ap (Decided (verdict (up k (flags (get_or env v 0))))) (max_start r s h)
start_law (negate F) flags t env r s h = ap opposite (start_law F flags t env r s h) ∙ sym (raise_opposite s (outcome F flags t env r))
start_law (then F G) flags t env r s h =
    ap (λ (o : Outcome). after o (λ d. outcome G flags t env d)) (start_law F flags t env r s h)
    ∙ sym (raise_after s (outcome F flags t env r) (λ d. outcome G flags t env d) (rises_max (λ d. outcome G flags t env d) (λ d e k. start_law G flags t env d e k)))
start_law (beside F G) flags t env r s h =
    ap₂ both (start_law F flags t env r s h) (start_law G flags t env r s h) ∙ sym (raise_both s (outcome F flags t env r) (outcome G flags t env r))
start_law (forall B₁ B₂ F) flags t env r s h =
    raise_every r s h (range B₁ B₂ env) (λ q. seen t q (outcome F flags t (env ++ (q ∷ [])) (max r q)))
    (λ q. seen t q (outcome F flags t (env ++ (q ∷ [])) (max s q))) t
    (λ q. rises_seen t r s q (λ d. outcome F flags t (env ++ (q ∷ [])) d) h (λ d e k. start_law F flags t (env ++ (q ∷ [])) d e k))
