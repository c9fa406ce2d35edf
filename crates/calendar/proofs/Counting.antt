-- Laws of counting: over two parts of a range, over what is up at the same ticks, and where none is.
use mathlib.Core.Path.{◌≡◌, refl, sym, ap, ap₂, ◌∙◌}
use mathlib.Core.Bool.{Bool, false}
use Prim.Native.Nat.{ℕ, zero, suc, ◌+◌, ◌≤◌, ◌<◌}
use native.Mathlib.Nat.{add-zero, zero-add, suc-add, add_assoc}
use native.Mathlib.Omega.{arith}
use Rattle.calendar.specs.Search.{one_if, tally}

pub tally_parts : (f : ℕ → Bool) (a m n : ℕ) → tally f a (m + n) ≡ tally f a m + tally f (a + m) n
unfolding tally
tally_parts f a zero n = ap (tally f a) (zero-add n) ∙ ap (λ (x : ℕ). tally f x n) (sym (add-zero a)) ∙ sym (zero-add (tally f (a + 0) n))
tally_parts f a (suc m) n =
    ap (tally f a) (suc-add m n)
    ∙ ap (λ (x : ℕ). one_if (f a) + x) (tally_parts f (suc a) m n) ∙ sym (add_assoc (one_if (f a)) (tally f (suc a) m) (tally f (suc a + m) n))
    ∙ ap (λ (x : ℕ). one_if (f a) + tally f (suc a) m + tally f x n) (omega arith)

abbrev pub Same : (ℕ → Bool) → (ℕ → Bool) → ℕ → ℕ → Type 0
Same f g a n = (q : ℕ) → a ≤ q → q < a + n → f q ≡ g q

pub next : (f g : ℕ → Bool) (a n : ℕ) → Same f g a (suc n) → Same f g (suc a) n
next f g a n s q l m = s q (omega arith) (omega arith)

pub tally_same : (f g : ℕ → Bool) (a n : ℕ) → Same f g a n → tally f a n ≡ tally g a n
unfolding tally
tally_same f g a zero s = refl
tally_same f g a (suc n) s = ap₂ (λ (x : Bool) (y : ℕ). one_if x + y) (s a (omega arith) (omega arith)) (tally_same f g (suc a) n (next f g a n s))

tally_of_none : (a n : ℕ) → tally (λ q. false) a n ≡ 0
unfolding tally
tally_of_none a zero = refl
tally_of_none a (suc n) = ap (λ (x : ℕ). 0 + x) (tally_of_none (suc a) n)

pub tally_quiet : (f : ℕ → Bool) (a n : ℕ) → Same f (λ q. false) a n → tally f a n ≡ 0
tally_quiet f a n z = tally_same f (λ q. false) a n z ∙ tally_of_none a n
