-- The nearest tick is the nearer of the last up to t and the first after it, and the first after it need only be sought while it can be nearer.
use mathlib.Core.Path.{◌≡◌, refl, sym, ap, ◌∙◌, subst}
use mathlib.Core.Bool.{Bool, true, false, cond, false≢true}
use Prim.Native.Nat.{ℕ, zero, suc, ◌+◌, ◌-◌, ◌≤◌, ◌<◌, min}
use native.Mathlib.Nat.{add-zero, add-suc, zero-add, le_trans}
use native.Mathlib.Omega.{arith}
use lib.Dec.{ltb}
use borrow.Author.Tests.{lt-ltb, le-ltb, ltb-true, ltb-false}
use Rattle.std.specs.Option.{option_or}
use Rattle.calendar.specs.Search.{earliest, latest, apart, nearer, nearest}
use Rattle.calendar.specs.Said.{First, Last}
use Rattle.std.specs.Prelude.{Option, Some, None}
use Rattle.calendar.proofs.Said.{earliest_said, latest_said}
use Rattle.calendar_questions.specs.Parts.{Quiet}
use Rattle.calendar_questions.proofs.Searching.{earliest_at}

-- ---- the nearer of two

nearer_second : (t p q : ℕ) → apart t q < apart t p → nearer t (Some p) (Some q) ≡ Some q
unfolding nearer
nearer_second t p q h = ap (λ (b : Bool). cond b (Some q) (Some p)) (lt-ltb (apart t q) (apart t p) h)

nearer_first : (t p q : ℕ) → apart t p ≤ apart t q → nearer t (Some p) (Some q) ≡ Some p
unfolding nearer
nearer_first t p q h = ap (λ (b : Bool). cond b (Some q) (Some p)) (le-ltb (apart t q) (apart t p) h)

nearer_none : (t : ℕ) (o : Option ℕ) → nearer t o None ≡ o
unfolding nearer
nearer_none t (Some p) = refl
nearer_none t None = refl

-- a tick, if it is up
abbrev own : (ℕ → Bool) → ℕ → Option ℕ
own f n = cond (f n) (Some n) None

-- ---- up to t, a later tick is nearer

pub up_to : (f : ℕ → Bool) (t n : ℕ) → n ≤ suc t → nearest f t n ≡ latest f 0 n
unfolding nearest latest apart nearer Last
up_to f t zero h = refl
up_to f t (suc n) h =
    ap (λ (o : Option ℕ). nearer t o (own f n)) (up_to f t n (omega arith))
    ∙ go (f n) (latest f 0 n) (latest_said f 0 n)
    ∙ ap (λ (x : ℕ). cond (f x) (Some x) (latest f 0 n)) (sym (zero-add n))
  where
    go : (b : Bool) (o : Option ℕ) → Last f 0 n o → nearer t o (cond b (Some n) None) ≡ cond b (Some n) o
    go true (Some p) w = nearer_second t p n (omega (arith, w.1))
    go true None w = refl
    go false o w = nearer_none t o

-- ---- after t, an earlier tick is nearer

-- the first of two that is a tick
abbrev or_else : Option ℕ → Option ℕ → Option ℕ
or_else (Some p) o = Some p
or_else None o = o

earliest_more : (f : ℕ → Bool) (a n : ℕ) → earliest f a (suc n) ≡ or_else (earliest f a n) (own f (a + n))
unfolding earliest
earliest_more f a zero = ap (own f) (sym (add-zero a))
earliest_more f a (suc n) = go (f a) (earliest_more f (suc a) n ∙ ap (λ (x : ℕ). or_else (earliest f (suc a) n) (own f x)) (let e : suc a + n ≡ a + suc n = omega arith in e))
  where
    go : (b : Bool) → earliest f (suc a) (suc n) ≡ or_else (earliest f (suc a) n) (own f (a + suc n))
        → cond b (Some a) (earliest f (suc a) (suc n)) ≡ or_else (cond b (Some a) (earliest f (suc a) n)) (own f (a + suc n))
    go true e = refl
    go false e = e

apart_after : (t p n : ℕ) → t < p → p < n → apart t p ≤ apart t n
unfolding apart
apart_after t p n a b = omega arith

-- a tick after both changes nothing
not_nearer : (t p n : ℕ) (l : Option ℕ) → t < p → p < n → nearer t (nearer t l (Some p)) (Some n) ≡ nearer t l (Some p)
unfolding nearer
not_nearer t p n None a b = nearer_first t p n (apart_after t p n a b)
not_nearer t p n (Some q) a b = go (ltb (apart t p) (apart t q)) refl
  where
    go : (x : Bool) → ltb (apart t p) (apart t q) ≡ x → nearer t (cond x (Some p) (Some q)) (Some n) ≡ cond x (Some p) (Some q)
    go true e = nearer_first t p n (apart_after t p n a b)
    go false e = nearer_first t q n (le_trans (ltb-false (apart t p) (apart t q) e) (apart_after t p n a b))

or_none : (o : Option ℕ) → or_else o None ≡ o
or_none (Some p) = refl
or_none None = refl

farther : (f : ℕ → Bool) (t m : ℕ) (l o : Option ℕ) (b : Bool) → First f (suc t) m o
    → nearer t (nearer t l o) (cond b (Some (suc t + m)) None) ≡ nearer t l (or_else o (cond b (Some (suc t + m)) None))
unfolding First
farther f t m l o false w = nearer_none t (nearer t l o) ∙ ap (nearer t l) (sym (or_none o))
farther f t m l (Some p) true w = not_nearer t p (suc t + m) l (omega (arith, w.0)) (omega (arith, w.1))
farther f t m l None true w = ap (λ (o : Option ℕ). nearer t o (Some (suc t + m))) (nearer_none t l)

after : (f : ℕ → Bool) (t m : ℕ) → nearest f t (suc t + m) ≡ nearer t (latest f 0 (suc t)) (earliest f (suc t) m)
unfolding nearest earliest
after f t zero = ap (nearest f t) (add-zero (suc t)) ∙ up_to f t (suc t) (omega arith) ∙ sym (nearer_none t (latest f 0 (suc t)))
after f t (suc m) =
    ap (nearest f t) (add-suc (suc t) m)
    ∙ ap (λ (o : Option ℕ). nearer t o (own f (suc t + m))) (after f t m)
    ∙ farther f t m (latest f 0 (suc t)) (earliest f (suc t) m) (f (suc t + m)) (earliest_said f (suc t) m)
    ∙ ap (nearer t (latest f 0 (suc t))) (sym (earliest_more f (suc t) m))

-- as `o` is the last up to t
pub both_sides : (f : ℕ → Bool) (t end : ℕ) (o : Option ℕ) → t < end → latest f 0 (suc t) ≡ o → nearer t o (earliest f (suc t) (end - suc t)) ≡ nearest f t end
both_sides f t end o h e =
    ap (λ (x : Option ℕ). nearer t x (earliest f (suc t) (end - suc t))) (sym e) ∙ sym (after f t (end - suc t))
    ∙ ap (nearest f t) (let s : suc t + (end - suc t) ≡ end = omega arith in s)

pub last_before : (f : ℕ → Bool) (t p : ℕ) → latest f 0 (suc t) ≡ Some p → p ≤ t
unfolding Last
last_before f t p e = let w : Last f 0 (suc t) (Some p) = subst (Last f 0 (suc t)) e (latest_said f 0 (suc t)) in omega (arith, w.1)

-- ---- after t and as far from it as p, or farther: not nearer

apart_before : (t p : ℕ) → p ≤ t → apart t p ≡ t - p
unfolding apart
apart_before t p h = omega arith

apart_later : (t q : ℕ) → t ≤ q → apart t q ≡ q - t
unfolding apart
apart_later t q h = omega arith

closer : (t p q : ℕ) → p ≤ t → t < q → q < t + (t - p) → apart t q < apart t p
closer t p q b l h = omega (arith, apart_before t p b, apart_later t q (omega arith))

as_far : (t p q : ℕ) → p ≤ t → t + (t - p) ≤ q → apart t p ≤ apart t q
as_far t p q b h = omega (arith, apart_before t p b, apart_later t q (omega arith))

-- how far the first after t is sought where p is up
module _ (f : ℕ → Bool) (t p end : ℕ) (before : p ≤ t) where
  abbrev cut : ℕ
  cut = min end (t + (t - p))

  pub nearer_found : (q : ℕ) → earliest f (suc t) (cut - suc t) ≡ Some q → Some q ≡ nearer t (Some p) (earliest f (suc t) (end - suc t))
  unfolding First Quiet
  nearer_found q e = go (subst (First f (suc t) (cut - suc t)) e (earliest_said f (suc t) (cut - suc t)))
    where
      go : First f (suc t) (cut - suc t) (Some q) → Some q ≡ nearer t (Some p) (earliest f (suc t) (end - suc t))
      go w =
          let low = w.0 in
          let high = w.1 in
          sym (ap (nearer t (Some p)) (earliest_at f (suc t) end q w.0 (omega arith) w.3 w.2) ∙ nearer_second t p q (closer t p q before (omega arith) (omega arith)))

  pub nearer_kept : earliest f (suc t) (cut - suc t) ≡ None → Some p ≡ nearer t (Some p) (earliest f (suc t) (end - suc t))
  unfolding First nearer
  nearer_kept e =
      sym (go (subst (First f (suc t) (cut - suc t)) e (earliest_said f (suc t) (cut - suc t))) (earliest f (suc t) (end - suc t)) (earliest_said f (suc t) (end - suc t)))
    where
      go : First f (suc t) (cut - suc t) None → (o : Option ℕ) → First f (suc t) (end - suc t) o → nearer t (Some p) o ≡ Some p
      go quiet None w = refl
      go quiet (Some q) w = at (ltb q (t + (t - p))) refl w.0 w.1 w.2
        where
          at : (x : Bool) → ltb q (t + (t - p)) ≡ x → suc t ≤ q → q < suc t + (end - suc t) → f q ≡ true → nearer t (Some p) (Some q) ≡ Some p
          at true x low high u =
              let l : q < t + (t - p) = ltb-true q (t + (t - p)) x in
              absurd (false≢true (sym (quiet q low (omega arith)) ∙ u))
          at false x low high u = nearer_first t p q (as_far t p q before (ltb-false q (t + (t - p)) x))

  -- what is found before the cut, or else p
  pub nearer_cut : (o : Option ℕ) → o ≡ earliest f (suc t) (cut - suc t) → option_or o (Some p) ≡ nearer t (Some p) (earliest f (suc t) (end - suc t))
  nearer_cut (Some q) e = nearer_found q (sym e)
  nearer_cut None e = nearer_kept (sym e)
