-- Laws of counting and seeking: over two parts of a range, and over a piece that a masked word shows.
use mathlib.Core.Path.{◌≡◌, refl, sym, ap, ap₂, ◌∙◌, subst}
use mathlib.Core.Bool.{Bool, true, false, cond, false≢true}
use Prim.Native.Nat.{ℕ, zero, suc, ◌+◌, ◌-◌, ◌*◌, ◌/◌, ◌%◌, ◌^◌, ◌≤◌, ◌<◌}
use native.Mathlib.Nat.{add-zero, zero-add, add-suc, suc-add, zero-lt-suc, lt_of_lt_of_le, lt_of_not-le}
use native.Mathlib.Omega.{arith}
use lib.Arith.{lt-one}
use lib.Dec.{ltb}
use lib.Pow.{pow_mono}
use lib.Count.{ones, ones_step, count_leading_zeros, count_trailing_zeros}
use borrow.Author.Tests.{ltb-true, ltb-false}
use Rattle.rule.specs.Meaning.{up}
use Rattle.calendar.specs.Search.{one_if, tally, earliest, latest}
use Rattle.std.specs.Prelude.{Some}
use Rattle.calendar.proofs.Marking.{up_above}
use Rattle.calendar.proofs.Counting.{tally_parts}
use Rattle.calendar.proofs.Stream.{up_zero}
use Rattle.calendar_questions.specs.Parts.{Shown, Quiet}
use Rattle.calendar_questions.proofs.Digits.{up_half, lowest, half_lt, trailing_up, trailing_below, leading_up}

-- ---- ticks of which none is up

pub quiet_none : (f : ℕ → Bool) (a : ℕ) → Quiet f a a
unfolding Quiet
quiet_none f a q l h = absurd (omega arith)

pub quiet_join : (f : ℕ → Bool) (a b c : ℕ) → Quiet f a b → Quiet f b c → Quiet f a c
unfolding Quiet
quiet_join f a b c x y q l h = go (ltb q b) refl
  where
    go : (t : Bool) → ltb q b ≡ t → f q ≡ false
    go true t = x q l (ltb-true q b t)
    go false t = y q (ltb-false q b t) h

-- ---- counting

pub tally_le : (f : ℕ → Bool) (a n : ℕ) → tally f a n ≤ n
unfolding tally
tally_le f a zero = omega arith
tally_le f a (suc n) = go (f a) (tally_le f (suc a) n)
  where
    go : (b : Bool) → tally f (suc a) n ≤ n → one_if b + tally f (suc a) n ≤ suc n
    go true h = omega arith
    go false h = omega arith

-- of the ticks from a to before e, those before b and those from b on
tally_split : (f : ℕ → Bool) (a b e : ℕ) → a ≤ b → b ≤ e → tally f a (e - a) ≡ tally f a (b - a) + tally f b (e - b)
tally_split f a b e l h =
    ap (tally f a) (let s : e - a ≡ (b - a) + (e - b) = omega arith in s) ∙ tally_parts f a (b - a) (e - b)
    ∙ ap (λ (x : ℕ). tally f a (b - a) + tally f x (e - b)) (let s : a + (b - a) ≡ b = omega arith in s)

pub tally_none : (f : ℕ → Bool) (a e : ℕ) → e ≤ a → tally f a (e - a) ≡ 0
unfolding tally
tally_none f a e h = ap (tally f a) (let z : e - a ≡ 0 = omega arith in z)

-- a range that begins at a run's start: its whole runs, and the rest
pub tally_by_runs : (f : ℕ → Bool) (q e : ℕ) → q ≤ e → q % 64 ≡ 0
    → tally f q (e - q) ≡ tally f (64 * (q / 64)) (64 * (e / 64) - 64 * (q / 64)) + tally f (e - e % 64) (e - (e - e % 64))
tally_by_runs f q e h z =
    tally_split f q (e - e % 64) e (omega arith) (omega arith)
    ∙ ap₂ (λ (x y : ℕ). tally f x (y - x) + tally f (e - e % 64) (e - (e - e % 64))) (let s : q ≡ 64 * (q / 64) = omega arith in s)
    (let s : e - e % 64 ≡ 64 * (e / 64) = omega arith in s)

-- ---- seeking the first

earliest_past : (f : ℕ → Bool) (a m n : ℕ) → Quiet f a (a + m) → earliest f a (m + n) ≡ earliest f (a + m) n
unfolding earliest Quiet
earliest_past f a zero n z = ap (earliest f a) (zero-add n) ∙ ap (λ (x : ℕ). earliest f x n) (sym (add-zero a))
earliest_past f a (suc m) n z =
    ap (earliest f a) (suc-add m n) ∙ ap (λ (b : Bool). cond b (Some a) (earliest f (suc a) (m + n))) (z a (omega arith) (omega arith))
    ∙ earliest_past f (suc a) m n (λ q l h. z q (omega arith) (omega arith)) ∙ ap (λ (x : ℕ). earliest f x n) (omega arith)

-- ticks of which none is up are passed over
pub earliest_skip : (f : ℕ → Bool) (a b e : ℕ) → a ≤ b → b ≤ e → Quiet f a b → earliest f a (e - a) ≡ earliest f b (e - b)
earliest_skip f a b e l h z =
    let s : a + (b - a) ≡ b = omega arith in
    ap (earliest f a) (let n : e - a ≡ (b - a) + (e - b) = omega arith in n)
    ∙ earliest_past f a (b - a) (e - b) (subst (Quiet f a) (sym s) z) ∙ ap (λ (x : ℕ). earliest f x (e - b)) s

-- the first is p: it is up, and none before it
pub earliest_at : (f : ℕ → Bool) (a e p : ℕ) → a ≤ p → p < e → Quiet f a p → f p ≡ true → earliest f a (e - a) ≡ Some p
unfolding earliest
earliest_at f a e p l h z u =
    earliest_skip f a p e l (omega arith) z ∙ ap (earliest f p) (let n : e - p ≡ suc (e - suc p) = omega arith in n)
    ∙ ap (λ (b : Bool). cond b (Some p) (earliest f (suc p) (e - suc p))) u

pub earliest_none : (f : ℕ → Bool) (a e : ℕ) → e ≤ a → earliest f a (e - a) ≡ earliest f a 0
earliest_none f a e h = ap (earliest f a) (let z : e - a ≡ 0 = omega arith in z)

-- ---- seeking the last

latest_past : (f : ℕ → Bool) (a m n : ℕ) → Quiet f (a + m) (a + (m + n)) → latest f a (m + n) ≡ latest f a m
unfolding latest Quiet
latest_past f a m zero z = ap (latest f a) (add-zero m)
latest_past f a m (suc n) z =
    ap (latest f a) (add-suc m n) ∙ ap (λ (b : Bool). cond b (Some (a + (m + n))) (latest f a (m + n))) (z (a + (m + n)) (omega arith) (omega arith))
    ∙ latest_past f a m n (λ q l h. z q l (omega arith))

pub latest_skip : (f : ℕ → Bool) (a b e : ℕ) → a ≤ b → b ≤ e → Quiet f b e → latest f a (e - a) ≡ latest f a (b - a)
unfolding Quiet
latest_skip f a b e l h z =
    ap (latest f a) (let s : e - a ≡ (b - a) + (e - b) = omega arith in s)
    ∙ latest_past f a (b - a) (e - b) (λ q i j. z q (omega arith) (omega arith))

-- the last is p: it is up, and none after it
latest_at : (f : ℕ → Bool) (a e p : ℕ) → a ≤ p → p < e → Quiet f (suc p) e → f p ≡ true → latest f a (e - a) ≡ Some p
unfolding latest
latest_at f a e p l h z u =
    let s : a + (p - a) ≡ p = omega arith in
    latest_skip f a (suc p) e (omega arith) h z ∙ ap (latest f a) (let n : suc p - a ≡ suc (p - a) = omega arith in n)
    ∙ ap (λ (b : Bool). cond b (Some (a + (p - a))) (latest f a (p - a))) (ap f s ∙ u) ∙ ap Some s

pub latest_none : (f : ℕ → Bool) (a e : ℕ) → e ≤ a → latest f a (e - a) ≡ latest f a 0
latest_none f a e h = ap (latest f a) (let z : e - a ≡ 0 = omega arith in z)

-- ---- a piece that a masked word shows: its ones are the ups, its lowest bit the first and its highest the last of them

tally_shown : (f : ℕ → Bool) (q d m : ℕ) → m < 2 ^ d → ((j : ℕ) → j < d → f (q + j) ≡ up j m) → tally f q d ≡ ones m
unfolding tally ones
tally_shown f q zero m h s = ap ones (sym (lt-one h))
tally_shown f q (suc d) m h s =
    ap₂ (λ (x y : ℕ). x + y)
    (ap one_if (ap f (sym (add-zero q)) ∙ s 0 (zero-lt-suc d)) ∙ lowest m)
    (tally_shown f (suc q) d (m / 2) (half_lt m d h) (λ j l. ap f (omega arith) ∙ s (suc j) (omega arith) ∙ sym (up_half m j)))
    ∙ sym (ones_step m)

module _ (f : ℕ → Bool) (q d m : ℕ) (s : Shown f q d m) where
  up_shown : (p : ℕ) → q ≤ p → p < q + d → f p ≡ up (p - q) m
  unfolding Shown
  up_shown p l h = ap f (let e : p ≡ q + (p - q) = omega arith in e) ∙ s.1 (p - q) (omega arith)

  -- a bit that is set lies in the piece, and its tick is up
  inside : (j : ℕ) → up j m ≡ true → j < d
  unfolding Shown
  inside j u = lt_of_not-le (λ (g : d ≤ j). false≢true (sym (up_above m j (lt_of_lt_of_le s.0 (pow_mono g))) ∙ u))

  up_inside : (j : ℕ) → up j m ≡ true → f (q + j) ≡ true
  unfolding Shown
  up_inside j u = s.1 j (inside j u) ∙ u

  pub quiet_shown : m ≡ 0 → Quiet f q (q + d)
  unfolding Quiet
  quiet_shown z p l h = up_shown p l h ∙ ap (up (p - q)) z ∙ up_zero (p - q)

  pub tally_turn : (e : ℕ) → q + d ≤ e → tally f q (e - q) ≡ ones m + tally f (q + d) (e - (q + d))
  unfolding Shown
  tally_turn e h =
      tally_split f q (q + d) e (omega arith) h
      ∙ ap (λ (x : ℕ). x + tally f (q + d) (e - (q + d)))
      (ap (tally f q) (let n : q + d - q ≡ d = omega arith in n) ∙ tally_shown f q d m s.0 s.1)

  module _ (few : d ≤ 64) (some : 0 < m) where
    wide : m < 2 ^ 64
    unfolding Shown
    wide = lt_of_lt_of_le s.0 (pow_mono few)

    pub trailing_within : count_trailing_zeros 64 m < d
    trailing_within = inside (count_trailing_zeros 64 m) (trailing_up 64 m some wide)

    pub leading_within : 63 - count_leading_zeros 64 m < d
    leading_within = inside (63 - count_leading_zeros 64 m) (leading_up m some wide).set

    pub earliest_found : (e : ℕ) → q + d ≤ e → earliest f q (e - q) ≡ Some (q + count_trailing_zeros 64 m)
    unfolding Quiet
    earliest_found e h =
        let z = count_trailing_zeros 64 m in
        let l : z < d = trailing_within in
        earliest_at f q e (q + z) (omega arith) (omega arith) (λ p i j. up_shown p i (omega arith) ∙ trailing_below 64 m (p - q) (omega arith))
        (up_inside z (trailing_up 64 m some wide))

    pub latest_found : (a : ℕ) → a ≤ q → latest f a (q + d - a) ≡ Some (q + (63 - count_leading_zeros 64 m))
    unfolding Quiet
    latest_found a h =
        let z = 63 - count_leading_zeros 64 m in
        let l : z < d = leading_within in
        let top = leading_up m some wide in
        latest_at f a (q + d) (q + z) (omega arith) (omega arith) (λ p i j. up_shown p (omega arith) j ∙ top.above (p - q) (omega arith))
        (up_inside z top.set)
