-- What the recursions of `Search` say, in terms of each tick: the first and the last that is up, the nearest, "the earlier of two equally near", and
-- none exactly where no tick is up.
use mathlib.Core.Path.{◌≡◌, refl, sym, ap, ap₂, ◌∙◌, subst}
use mathlib.Core.Bool.{Bool, true, false, cond, ◌&&◌, false≢true}
use mathlib.Core.List.{List}
use Prim.Native.Nat.{ℕ, zero, suc, ◌+◌, ◌-◌, ◌≤◌, ◌<◌, min}
use native.Mathlib.Nat.{add-zero, zero-add, le_trans, le_refl, lt_of_lt_of_le, le_of_lt}
use native.Mathlib.Omega.{arith}
use lib.Dec.{leb, ltb}
use borrow.Author.Tests.{ltb-true, ltb-false, leb-true, leb-false, le-leb, lt-leb}
use Rattle.calendar.specs.Search.{tally, earliest, latest, apart, nearer, nearest}
use Rattle.calendar.specs.Said.{First, Last, Near, InRange, between, UpsIn, FirstUp, LastUp, NearestUp}
use Rattle.calendar.proofs.Counting.{tally_parts, tally_same, tally_quiet}
use Rattle.calendar.specs.Calendar.{kept, up_at, span, ups, first_up, last_up, nearest_up}
use Rattle.std.specs.Prelude.{Option, Some, None}

-- ---- the first

from_next : (f : ℕ → Bool) (a q : ℕ) → f a ≡ false → a ≤ q → (suc a ≤ q → f q ≡ false) → f q ≡ false
from_next f a q e l next = go (ltb a q) refl
  where
    go : (t : Bool) → ltb a q ≡ t → f q ≡ false
    go true t = next (ltb-true a q t)
    go false t = ap f (let s : q ≡ a = omega (arith, ltb-false a q t) in s) ∙ e

pub earliest_said : (f : ℕ → Bool) (a n : ℕ) → First f a n (earliest f a n)
unfolding earliest First
earliest_said f a zero = λ q l m. absurd (omega arith)
earliest_said f a (suc n) = go (f a) refl (earliest f (suc a) n) (earliest_said f (suc a) n)
  where
    go : (b : Bool) → f a ≡ b → (o : Option ℕ) → First f (suc a) n o → First f a (suc n) (cond b (Some a) o)
    go true e o w = (omega arith, omega arith, e, λ q l m. absurd (omega arith))
    go false e (Some p) w = (omega (arith, w.0), omega (arith, w.1), w.2, λ q l m. from_next f a q e l (λ i. w.3 q i m))
    go false e None w = λ q l m. from_next f a q e l (λ i. w q i (omega arith))

-- ---- the last

before_last : (f : ℕ → Bool) (e q : ℕ) → f e ≡ false → q < suc e → (q < e → f q ≡ false) → f q ≡ false
before_last f e q z l next = go (ltb q e) refl
  where
    go : (t : Bool) → ltb q e ≡ t → f q ≡ false
    go true t = next (ltb-true q e t)
    go false t = ap f (let s : q ≡ e = omega (arith, ltb-false q e t) in s) ∙ z

pub latest_said : (f : ℕ → Bool) (a n : ℕ) → Last f a n (latest f a n)
unfolding latest Last
latest_said f a zero = λ q l m. absurd (omega arith)
latest_said f a (suc n) = go (f (a + n)) refl (latest f a n) (latest_said f a n)
  where
    go : (b : Bool) → f (a + n) ≡ b → (o : Option ℕ) → Last f a n o → Last f a (suc n) (cond b (Some (a + n)) o)
    go true e o w = (omega arith, omega arith, e, λ q l m. absurd (omega arith))
    go false e (Some p) w = (w.0, omega (arith, w.1), w.2, λ q l m. before_last f (a + n) q e (omega arith) (λ i. w.3 q l i))
    go false e None w = λ q l m. before_last f (a + n) q e (omega arith) (λ i. w q l i)

-- ---- the nearest

-- of the ticks 0 .. n the last, or one before it
last_or : (n q : ℕ) (A : Type 0) → q < suc n → (q ≡ n → A) → (q < n → A) → A
last_or n q A l here before = go (ltb q n) refl
  where
    go : (t : Bool) → ltb q n ≡ t → A
    go true t = before (ltb-true q n t)
    go false t = here (let s : q ≡ n = omega (arith, ltb-false q n t) in s)

nearest_said : (f : ℕ → Bool) (t n : ℕ) → Near f t n (nearest f t n)
unfolding nearest nearer Near
nearest_said f t zero = λ q l. absurd (omega arith)
nearest_said f t (suc n) = go (f n) refl (nearest f t n) (nearest_said f t n)
  where
    two : (p : ℕ) → Near f t n (Some p) → f n ≡ true → (b : Bool) → ltb (apart t n) (apart t p) ≡ b → Near f t (suc n) (cond b (Some n) (Some p))
    two p w e true c = (
      omega arith,
      e,
      λ q l u. last_or n q (apart t n ≤ apart t q) l (λ s. subst (λ (x : ℕ). apart t n ≤ apart t x) (sym s) (le_refl (apart t n)))
          (λ i. le_trans (le_of_lt (ltb-true (apart t n) (apart t p) c)) (w.2 q i u)),
      λ q i u. lt_of_lt_of_le (ltb-true (apart t n) (apart t p) c) (w.2 q i u),
    )
    two p w e false c = (
      omega (arith, w.0),
      w.1,
      λ q l u. last_or n q (apart t p ≤ apart t q) l (λ s. subst (λ (x : ℕ). apart t p ≤ apart t x) (sym s) (ltb-false (apart t n) (apart t p) c)) (λ i. w.2 q i u),
      w.3,
    )

    go : (b : Bool) → f n ≡ b → (o : Option ℕ) → Near f t n o → Near f t (suc n) (nearer t o (cond b (Some n) None))
    go false e (Some p) w = (
      omega (arith, w.0),
      w.1,
      λ q l u. last_or n q (apart t p ≤ apart t q) l (λ s. absurd (false≢true (sym e ∙ ap f (sym s) ∙ u))) (λ i. w.2 q i u),
      w.3,
    )
    go false e None w = λ q l. last_or n q (f q ≡ false) l (λ s. ap f s ∙ e) (λ i. w q i)
    go true e (Some p) w = two p w e (ltb (apart t n) (apart t p)) refl
    go true e None w = (
      omega arith,
      e,
      λ q l u. last_or n q (apart t n ≤ apart t q) l (λ s. subst (λ (x : ℕ). apart t n ≤ apart t x) (sym s) (le_refl (apart t n))) (λ i. absurd (false≢true (sym (w q i) ∙ u))),
      λ q i u. absurd (false≢true (sym (w q i) ∙ u)),
    )

-- ---- of the kept ticks of a calendar

module _ (words : List ℕ) (k first last : ℕ) where
  -- A tick of the range is one of so many from its first on.
  inside : (q : ℕ) → InRange words first last q → q < first + span (kept words) first last
  unfolding span
  inside q (low, high, there) = omega arith

  outside : (q : ℕ) → first ≤ q → q < first + span (kept words) first last → InRange words first last q
  unfolding span
  outside q low high = (low, omega arith, omega arith)

  abbrev counted : ℕ → Bool
  counted q = between first last q && up_at words k q

  -- Ticks before the range, after it, and in it.
  before_range : (q : ℕ) → q < first → counted q ≡ false
  before_range q l = ap (λ (b : Bool). (b && leb q last) && up_at words k q) (lt-leb first q l)

  after_range : (q : ℕ) → last < q → counted q ≡ false
  after_range q l = go (leb first q) (lt-leb q last l)
    where
      go : (b : Bool) → leb q last ≡ false → (b && leb q last) && up_at words k q ≡ false
      go true e = ap (λ (c : Bool). c && up_at words k q) e
      go false e = refl

  in_range : (q : ℕ) → first ≤ q → q ≤ last → counted q ≡ up_at words k q
  in_range q low high =
      ap (λ (b : Bool). (b && leb q last) && up_at words k q) (le-leb first q low) ∙ ap (λ (b : Bool). b && up_at words k q) (le-leb q last high)

  past_range : (q : ℕ) → q < kept words → min (suc last) (kept words) < first → counted q ≡ false
  past_range q m high = go (ltb q first) refl
    where
      go : (b : Bool) → ltb q first ≡ b → counted q ≡ false
      go true i = before_range q (ltb-true q first i)
      go false i = after_range q (omega (arith, ltb-false q first i))

  pub ups_said : UpsIn words k first last (ups words k first last)
  unfolding ups span
  ups_said = go (leb first (min (suc last) (kept words))) refl
    where
      go : (b : Bool) → leb first (min (suc last) (kept words)) ≡ b → tally (up_at words k) first (min (suc last) (kept words) - first) ≡ tally counted 0 (kept words)
      go true e =
          let low : first ≤ min (suc last) (kept words) = leb-true first (min (suc last) (kept words)) e in
          let size = min (suc last) (kept words) - first in
          let rest = kept words - min (suc last) (kept words) in
          sym (ap (tally counted 0) (let w : kept words ≡ first + (size + rest) = omega arith in w)
          ∙ tally_parts counted 0 first (size + rest)
          ∙ ap₂ (λ (x y : ℕ). x + tally counted y (size + rest)) (tally_quiet counted 0 first (λ q l m. before_range q (omega arith))) (zero-add first)
          ∙ zero-add (tally counted first (size + rest))
          ∙ tally_parts counted first size rest
          ∙ ap₂ (λ (x y : ℕ). x + y) (tally_same counted (up_at words k) first size (λ q l m. in_range q l (omega arith)))
          (tally_quiet counted (first + size) rest (λ q l m. after_range q (omega arith)))
          ∙ add-zero (tally (up_at words k) first size))
      go false e =
          let high : min (suc last) (kept words) < first = leb-false first (min (suc last) (kept words)) e in
          ap (tally (up_at words k) first) (let z : min (suc last) (kept words) - first ≡ 0 = omega arith in z)
          ∙ tally_quiet (up_at words k) first 0 (λ q l m. absurd (omega arith))
          ∙ sym (tally_quiet counted 0 (kept words) (λ q l m. past_range q (omega arith) high))

  pub first_up_said : FirstUp words k first last (first_up words k first last)
  unfolding first_up First
  first_up_said = go (earliest (up_at words k) first (span (kept words) first last)) (earliest_said (up_at words k) first (span (kept words) first last))
    where
      go : (found : Option ℕ) → First (up_at words k) first (span (kept words) first last) found → FirstUp words k first last found
      go (Some p) w = (outside p w.0 w.1, w.2, λ q i l. w.3 q i.0 l)
      go None w = λ q i. w q i.0 (inside q i)

  pub last_up_said : LastUp words k first last (last_up words k first last)
  unfolding last_up Last
  last_up_said = go (latest (up_at words k) first (span (kept words) first last)) (latest_said (up_at words k) first (span (kept words) first last))
    where
      go : (found : Option ℕ) → Last (up_at words k) first (span (kept words) first last) found → LastUp words k first last found
      go (Some p) w = (outside p w.0 w.1, w.2, λ q i l. w.3 q l (inside q i))
      go None w = λ q i. w q i.0 (inside q i)

pub nearest_up_said : (words : List ℕ) (k t : ℕ) → NearestUp words k t (nearest_up words k t)
unfolding nearest_up
nearest_up_said words k t = nearest_said (up_at words k) t (kept words)
