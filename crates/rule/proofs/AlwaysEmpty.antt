-- Ranges that are always empty (02, point 6): their W is 0, they have no position at any tick, so they are true at their start, and their figures
-- fit that: delay 0, history 0 and one cell, whatever their body.
use Prim.Native.Nat.{ℕ, suc, ◌-◌, ◌≤◌}
use mathlib.Core.Path.{◌≡◌, refl, ap, subst}
use mathlib.Core.Logic.{◌⊎◌, inl, inr, ◌↔◌, ⊎_elim}
use mathlib.Core.Bool.{Bool, true, false, cond, false≢true}
use mathlib.Core.List.{List}
use native.Mathlib.Omega.{arith}
use lib.IntN.{pos, ◌+ℤ◌, ◌-ℤ◌}
use Rattle.rule.specs.declared.Limit.{Limit}
use Rattle.rule.specs.declared.Limit.TheVariants.{Lowest, At, Highest}
use Rattle.rule.specs.declared.Size.{Size}
use Rattle.rule.specs.declared.Size.TheVariants.{Finite, Unbounded}
use Rattle.rule.specs.declared.Pair.{Pair}
use Rattle.rule.specs.declared.Range.{Range}
use Rattle.rule.specs.declared.Range.TheVariants as positions
use Rattle.rule.specs.declared.Verdict.TheVariants.{True}
use Rattle.rule.specs.declared.Outcome.TheVariants.{Decided}
use Rattle.rule.specs.Formula.{Bound, Formula, forall}
use Rattle.rule.specs.Meaning.{raised, range, every, outcome}
use Rattle.rule.specs.Figures.{plus, times, range_pair, positions_from, width, none_between, always_empty, unless_empty, delay, history, cells}
use Rattle.rule.specs.Positions.{Fits, In, Within}
use Rattle.rule.proofs.Signed.{sum_parts, sub_parts-ℤ, apart, ltZ_parts, parts_ltZ}
use Rattle.rule.proofs.Pairs.{AtMost, Ordered, range_ordered, range_few}

-- ---- W is 0 for exactly these

endless : Unbounded ≡ Finite 0 → ⊥
endless e = let z : ◌≡◌ {A = ℕ} 0 1 = cc in omega arith

none_positions : (l u : Limit) → (none_between l u ≡ true) ↔ (positions_from l u ≡ Finite 0)
unfolding none_between positions_from
none_positions Lowest u = (λ h. absurd (false≢true h), λ e. absurd (endless e))
none_positions (At l) Lowest = (λ h. refl, λ e. refl)
none_positions (At l) (At u) = (
  λ h. ap Finite (⊎_elim (λ z. z) (λ z. omega (arith, ltZ_parts u l h, sum_parts (u -ℤ l) (pos 1), sub_parts-ℤ u l)) (apart ((u -ℤ l) +ℤ pos 1))),
  λ e.
      let z : raised ((u -ℤ l) +ℤ pos 1) ≡ 0 = cc in
      parts_ltZ u l (omega (arith, sum_parts (u -ℤ l) (pos 1), sub_parts-ℤ u l)),
)
none_positions (At l) Highest = (λ h. absurd (false≢true h), λ e. absurd (endless e))
none_positions Highest Lowest = (λ h. refl, λ e. refl)
none_positions Highest (At u) = (λ h. refl, λ e. refl)
none_positions Highest Highest = (λ h. refl, λ e. refl)

pub empty_width : (pair : Pair) → (always_empty pair ≡ true) ↔ (width pair ≡ Finite 0)
unfolding always_empty width
empty_width pair = none_positions pair.lower pair.upper

-- ---- they have no position, and so are true at their start

pub empty_range : (B₁ B₂ : Bound) {p : ℕ} {ps : List Pair} {env : List ℕ} → Fits p ps env → always_empty (range_pair B₁ B₂ ps) ≡ true
    → (q : ℕ) → In (range B₁ B₂ env) q → ⊥
empty_range B₁ B₂ {p} {ps} {env} f e q i =
    let few : suc q - q ≤ 0 = subst (AtMost (suc q - q)) ((empty_width (range_pair B₁ B₂ ps)).0 e) (range_few B₁ B₂ f q q i i) in
    omega arith

no_position : (r : Range) → Ordered r → ((q : ℕ) → In r q → ⊥) → r ≡ positions.Empty
no_position positions.Empty o h = refl
no_position (positions.Through first last) o h = absurd (h first (omega arith, o))
no_position (positions.Onward first) o h = absurd (h first (omega arith))

pub empty_none : (B₁ B₂ : Bound) {p : ℕ} {ps : List Pair} {env : List ℕ} → Fits p ps env → always_empty (range_pair B₁ B₂ ps) ≡ true
    → range B₁ B₂ env ≡ positions.Empty
empty_none B₁ B₂ {p} {ps} {env} f e = no_position (range B₁ B₂ env) (range_ordered B₁ B₂ env) (empty_range B₁ B₂ f e)

pub empty_true : (B₁ B₂ : Bound) (F : Formula) {p : ℕ} {ps : List Pair} {env : List ℕ} → Fits p ps env → always_empty (range_pair B₁ B₂ ps) ≡ true
    → (flags : ℕ → ℕ) (t s : ℕ) → outcome (forall B₁ B₂ F) flags t env s ≡ Decided True s
unfolding outcome every
empty_true B₁ B₂ F f e flags t s = rw (empty_none B₁ B₂ f e) refl

-- ---- their figures

module _ (B₁ B₂ : Bound) (F : Formula) (ps : List Pair) (e : always_empty (range_pair B₁ B₂ ps) ≡ true) where
  pub empty_delay : delay (forall B₁ B₂ F) ps ≡ Finite 0
  unfolding delay unless_empty
  empty_delay = rw e refl

  pub empty_history : (k : Size) → history (forall B₁ B₂ F) ps k ≡ Finite 0
  unfolding history unless_empty
  empty_history k = rw e refl

  pub empty_cells : cells (forall B₁ B₂ F) ps ≡ Finite 1
  unfolding cells times plus
  empty_cells = rw ((empty_width (range_pair B₁ B₂ ps)).0 e) refl

-- ---- a figure within a limit: the range is always empty, or what is counted of it is within

pub within_unless : (pair : Pair) (figure : Size) (limit : ℕ) → Within (unless_empty pair figure) limit → (always_empty pair ≡ true) ⊎ Within figure limit
unfolding unless_empty
within_unless pair figure limit h = go (always_empty pair) refl h
  where
    go : (b : Bool) → always_empty pair ≡ b → Within (cond b (Finite 0) figure) limit → (always_empty pair ≡ true) ⊎ Within figure limit
    go true e h = inl e
    go false e h = inr h
