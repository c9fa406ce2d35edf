-- A range whose body does not name the range's variable: its bodies are alike but for their start, so that the first and the last decide.
use Prim.Native.Nat.{ℕ, zero, suc, ◌+◌, ◌-◌, ◌≤◌, ◌<◌, min, max}
use mathlib.Core.Path.{◌≡◌, refl, sym, ap, ap₂, ◌∙◌, fun_ext}
use mathlib.Core.Bool.{false, ◌||◌}
use mathlib.Core.List.{List, [], ◌∷◌, ◌++◌, append_assoc}
use native.Mathlib.Omega.{arith}
use lib.ListN.{length, get_or}
use lib.IntN.{pos, ◌+ℤ◌}
use borrow.Author.Tests.{eqb-false}
use Rattle.rule.specs.declared.Verdict.TheVariants.{True, False}
use Rattle.rule.specs.declared.Outcome.{Outcome}
use Rattle.rule.specs.declared.Outcome.TheVariants.{Decided, Open}
use Rattle.rule.specs.Formula.{Bound, origin, infinity, variable, Formula, flag, negate, then, beside, forall}
use Rattle.rule.specs.declared.Point.TheVariants.{Whole}
use Rattle.rule.specs.declared.Range.{Range}
use Rattle.rule.specs.Meaning.{verdict, up, opposite, both, after, point, positions, range, walk, seen, every, outcome}
use Rattle.rule.specs.Started.{raise}
use Rattle.rule.specs.Naming.{bound_names, names}
use Rattle.refusal.proofs.Bools.{or_false}
use Rattle.rule.proofs.Conjunction.{both_assoc, both_twice}
use Rattle.rule.proofs.Every.{seen_in}
use Rattle.rule.proofs.Start.{start_law, raise_twice}

-- ---- the position of a variable that is not named does not matter

other_place : (before behind : List ℕ) (p q v : ℕ) → (v ≡ length before → ⊥)
    → get_or (before ++ (p ∷ behind)) v 0 ≡ get_or (before ++ (q ∷ behind)) v 0
other_place [] behind p q zero h = absurd (h refl)
other_place [] behind p q (suc v) h = refl
other_place (x ∷ before) behind p q zero h = refl
other_place (x ∷ before) behind p q (suc v) h = other_place before behind p q v (λ e. h (ap suc e))

other_bound : (before behind : List ℕ) (p q : ℕ) (B : Bound) → bound_names (length before) B ≡ false
    → point B (before ++ (p ∷ behind)) ≡ point B (before ++ (q ∷ behind))
unfolding point bound_names
other_bound before behind p q (origin n) h = refl
other_bound before behind p q infinity h = refl
other_bound before behind p q (variable v n) h =
    ap (λ (x : ℕ). Whole (pos x +ℤ n)) (other_place before behind p q v (eqb-false v (length before) h))

other_range : (before behind : List ℕ) (p q : ℕ) (B₁ B₂ : Bound) → bound_names (length before) B₁ ≡ false → bound_names (length before) B₂ ≡ false
    → range B₁ B₂ (before ++ (p ∷ behind)) ≡ range B₁ B₂ (before ++ (q ∷ behind))
unfolding range
other_range before behind p q B₁ B₂ h k = ap₂ positions (other_bound before behind p q B₁ h) (other_bound before behind p q B₂ k)

other_outcome : (F : Formula) (flags : ℕ → ℕ) (t : ℕ) (before behind : List ℕ) (p q s : ℕ) → names (length before) F ≡ false
    → outcome F flags t (before ++ (p ∷ behind)) s ≡ outcome F flags t (before ++ (q ∷ behind)) s
unfolding outcome names
other_outcome (flag v k) flags t before behind p q s h =
    ap (λ (x : ℕ). Decided (verdict (up k (flags x))) s) (other_place before behind p q v (eqb-false v (length before) h))
other_outcome (negate F) flags t before behind p q s h = ap opposite (other_outcome F flags t before behind p q s h)
other_outcome (then F G) flags t before behind p q s h =
    ap₂ after (other_outcome F flags t before behind p q s (or_false (names (length before) F) (names (length before) G) h).0)
    (fun_ext (λ d. other_outcome G flags t before behind p q d (or_false (names (length before) F) (names (length before) G) h).1))
other_outcome (beside F G) flags t before behind p q s h =
    ap₂ both (other_outcome F flags t before behind p q s (or_false (names (length before) F) (names (length before) G) h).0)
    (other_outcome G flags t before behind p q s (or_false (names (length before) F) (names (length before) G) h).1)
other_outcome (forall B₁ B₂ F) flags t before behind p q s h =
    let k : (bound_names (length before) B₂ || names (length before) F) ≡ false
    = (or_false (bound_names (length before) B₁) (bound_names (length before) B₂ || names (length before) F) h).1 in
    ap₂ (λ (x : Range) (f : ℕ → Outcome). every x f t s)
    (other_range before behind p q B₁ B₂ (or_false (bound_names (length before) B₁) (bound_names (length before) B₂ || names (length before) F) h).0
    (or_false (bound_names (length before) B₂) (names (length before) F) k).0)
    (fun_ext (λ x.
    ap (λ (e : List ℕ). seen t x (outcome F flags t e (max s x))) (append_assoc before (p ∷ behind) (x ∷ []))
    ∙ ap (seen t x) (other_outcome F flags t before (behind ++ (x ∷ [])) p q (max s x) (or_false (bound_names (length before) B₂) (names (length before) F) k).1)
    ∙ ap (λ (e : List ℕ). seen t x (outcome F flags t e (max s x))) (sym (append_assoc before (q ∷ behind) (x ∷ [])))))

-- ---- so a later position's body is that of an earlier one, raised

later_start : (s q r : ℕ) → q ≤ r → max (max s r) (max s q) ≡ max r (max s q)
later_start s q r h = omega arith

pub unnamed_body : (F : Formula) (flags : ℕ → ℕ) (t : ℕ) (env : List ℕ) (s q r : ℕ) → names (length env) F ≡ false → q ≤ r
    → outcome F flags t (env ++ (r ∷ [])) (max s r) ≡ raise r (outcome F flags t (env ++ (q ∷ [])) (max s q))
unnamed_body F flags t env s q r h k =
    other_outcome F flags t env [] r q (max s r) h
    ∙ start_law F flags t (env ++ (q ∷ [])) (max s q) (max s r) (omega arith)
    ∙ ap (raise (max s r)) again
    ∙ raise_twice (max s r) (max s q) (outcome F flags t (env ++ (q ∷ [])) (max s q))
    ∙ ap (λ (n : ℕ). raise n (outcome F flags t (env ++ (q ∷ [])) (max s q))) (later_start s q r k)
    ∙ sym (raise_twice r (max s q) (outcome F flags t (env ++ (q ∷ [])) (max s q)))
    ∙ ap (raise r) (sym again)
  where
    again : outcome F flags t (env ++ (q ∷ [])) (max s q) ≡ raise (max s q) (outcome F flags t (env ++ (q ∷ [])) (max s q))
    again = start_law F flags t (env ++ (q ∷ [])) (max s q) (max s q) (omega arith)

-- ---- a walk over such bodies: those between the first and the last change nothing

least : (q m d c : ℕ) → q ≤ m → min (max q d) (min (max m d) c) ≡ min (max q d) c
least q m d c h = omega arith

largest : (m l d c : ℕ) → m ≤ l → max (max m d) (max (max l d) c) ≡ max (max l d) c
largest m l d c h = omega arith

between : (q m l : ℕ) (o end : Outcome) → q ≤ m → m ≤ l
    → both (raise q o) (both (raise m o) (both (raise l o) end)) ≡ both (raise q o) (both (raise l o) end)
unfolding both raise
between q m l (Decided False d) (Decided False c) h k = ap (Decided False) (least q m d (min (max l d) c) h)
between q m l (Decided False d) (Decided True c) h k = ap (Decided False) (least q m d (max l d) h)
between q m l (Decided False d) Open h k = ap (Decided False) (least q m d (max l d) h)
between q m l (Decided True d) (Decided False c) h k = refl
between q m l (Decided True d) (Decided True c) h k = ap (λ (n : ℕ). Decided True (max (max q d) n)) (largest m l d c k)
between q m l (Decided True d) Open h k = refl
between q m l Open (Decided False c) h k = refl
between q m l Open (Decided True c) h k = refl
between q m l Open Open h k = refl

both_again : (a end : Outcome) → both a end ≡ both a (both a end)
both_again a end = ap (λ (o : Outcome). both o end) (sym (both_twice a)) ∙ both_assoc a a end

walk_alike : (f : ℕ → Outcome) (o : Outcome) (n q : ℕ) (end : Outcome) → ((r : ℕ) → q ≤ r → r ≤ q + n → f r ≡ raise r o)
    → walk f (suc n) q end ≡ both (raise q o) (both (raise (q + n) o) end)
unfolding walk
walk_alike f o zero q end h =
    ap (λ (a : Outcome). both a end) (h q (omega arith) (omega arith)) ∙ both_again (raise q o) end
    ∙ ap (λ (l : ℕ). both (raise q o) (both (raise l o) end)) (last q)
  where
    last : (q : ℕ) → q ≡ q + 0
    last q = omega arith
walk_alike f o (suc n) q end h =
    ap₂ both (h q (omega arith) (omega arith)) (walk_alike f o n (suc q) end (λ r i j. h r (omega arith) (omega arith)))
    ∙ between q (suc q) (suc q + n) o end (omega arith) (omega arith)
    ∙ ap (λ (l : ℕ). both (raise q o) (both (raise l o) end)) (last q n)
  where
    last : (q n : ℕ) → suc q + n ≡ q + suc n
    last q n = omega arith

-- The bodies of n positions from q on, none above t, where the body does not name the range's variable: from the outcome of the first.
module _ (F : Formula) (flags : ℕ → ℕ) (t : ℕ) (env : List ℕ) (s : ℕ) where
  abbrev body : ℕ → Outcome
  body q = seen t q (outcome F flags t (env ++ (q ∷ [])) (max s q))

  body_later : (q r : ℕ) → names (length env) F ≡ false → q ≤ r → r ≤ t → body r ≡ raise r (body q)
  body_later q r h i j =
      seen_in t r (outcome F flags t (env ++ (r ∷ [])) (max s r)) j
      ∙ unnamed_body F flags t env s q r h i
      ∙ ap (raise r) (sym (seen_in t q (outcome F flags t (env ++ (q ∷ [])) (max s q)) (omega arith)))

  pub unnamed_walk : (n q : ℕ) (end : Outcome) → names (length env) F ≡ false → 0 < n → q + n ≤ suc t
      → walk body n q end ≡ both (body q) (both (raise (q + (n - 1)) (body q)) end)
  unnamed_walk n q end h i k =
      ap (λ (m : ℕ). walk body m q end) some
      ∙ walk_alike body (body q) (n - 1) q end (λ r a b. body_later q r h a (omega arith))
      ∙ ap (λ (o : Outcome). both o (both (raise (q + (n - 1)) (body q)) end)) (sym (body_later q q h (omega arith) (omega arith)))
    where
      some : n ≡ suc (n - 1)
      some = omega arith
