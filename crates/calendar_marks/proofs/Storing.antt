-- Words stored one after another, from the front.
use mathlib.Core.Path.{◌≡◌, refl, sym, ap, ap₂, ◌∙◌, subst}
use mathlib.Core.Bool.{Bool, true, false}
use mathlib.Core.List.{List, [], ◌∷◌, ◌++◌}
use Prim.{⊥}
use Prim.Native.Nat.{ℕ, zero, suc, ◌+◌, ◌*◌, ◌/◌, ◌≤◌, ◌<◌}
use native.Mathlib.Omega.{arith}
use lib.Dec.{ltb, eqb}
use lib.ListN.{length, get_or, set, drop, replicate, length-set}
use lib.Seq.{get_or-set_same, get_or-set_other, ext_get_or}
use borrow.Author.Tests.{eqb-true, eqb-false, ltb-true, ltb-false}
use Rattle.calendar.specs.Calendar.{each, cleared_word, cleared}
use Rattle.calendar.proofs.Each.{length_each, getD_each, drop_each, cleared_in, cleared_out}

-- The first n words of ws are those of `each f 0 ws₀`, the others are those of ws₀.
pub record Done (f : ℕ → ℕ → ℕ) (ws₀ : List ℕ) (n : ℕ) (ws : List ℕ) : Type 0 where
  pub same : length ws ≡ length ws₀
  pub front : (j : ℕ) → j < n → get_or ws j 0 ≡ f j (get_or ws₀ j 0)
  pub rest : (j : ℕ) → n ≤ j → get_or ws j 0 ≡ get_or ws₀ j 0

pub done_none : (f : ℕ → ℕ → ℕ) (ws₀ : List ℕ) (n : ℕ) → ((j w : ℕ) → j < n → f j w ≡ w) → Done f ws₀ n ws₀
done_none f ws₀ n h = record { same = refl; front = λ j l. sym (h j (get_or ws₀ j 0) l); rest = λ j l. refl }

pub done_more : (f : ℕ → ℕ → ℕ) (ws₀ : List ℕ) (n : ℕ) (ws : List ℕ) (v : ℕ) → Done f ws₀ n ws → n < length ws₀ → v ≡ f n (get_or ws n 0)
    → (m : ℕ) → m ≡ n + 1 → Done f ws₀ m (set ws n v)
done_more f ws₀ n ws v d l e m next =
    record {
      same = length-set ws n v ∙ d.same;
      front = λ j i. at j i (eqb j n) refl;
      rest = λ j i. get_or-set_other ws n j v 0 (λ s. omega arith) ∙ d.rest j (omega arith);
    }
  where
    at : (j : ℕ) → j < m → (t : Bool) → eqb j n ≡ t → get_or (set ws n v) j 0 ≡ f j (get_or ws₀ j 0)
    at j i true t =
        let s : j ≡ n = eqb-true j n t in
        ap (λ (x : ℕ). get_or (set ws n v) x 0) s ∙ get_or-set_same ws n v 0 (omega (arith, d.same)) ∙ e
        ∙ ap (f n) (d.rest n (omega arith)) ∙ ap (λ (x : ℕ). f x (get_or ws₀ x 0)) (sym s)
    at j i false t =
        let s : j ≡ n → ⊥ = eqb-false j n t in
        get_or-set_other ws n j v 0 s ∙ d.front j (omega arith)

pub done_all : (f : ℕ → ℕ → ℕ) (ws₀ : List ℕ) (n : ℕ) (ws : List ℕ) → Done f ws₀ n ws → ((j w : ℕ) → n ≤ j → f j w ≡ w) → ws ≡ each f 0 ws₀
done_all f ws₀ n ws d h =
    ext_get_or 0 ws (each f 0 ws₀) (d.same ∙ sym (length_each f 0 ws₀))
    (λ i l. at i (ltb i n) refl ∙ sym (getD_each f 0 ws₀ i (omega (arith, d.same)) ∙ ap (λ (x : ℕ). f x (get_or ws₀ i 0)) (let e : 0 + i ≡ i = omega arith in e)))
  where
    at : (j : ℕ) → (t : Bool) → ltb j n ≡ t → get_or ws j 0 ≡ f j (get_or ws₀ j 0)
    at j true t = d.front j (ltb-true j n t)
    at j false t = d.rest j (ltb-false j n t) ∙ sym (h j (get_or ws₀ j 0) (ltb-false j n t))

-- zeroed words, and then the rest: what opening leaves
each_cleared : (m j : ℕ) (ws : List ℕ) → m ≤ length ws → each (cleared_word (j + m)) j ws ≡ replicate m 0 ++ drop m ws
unfolding each
each_cleared zero j ws h = drop_each (cleared_word (j + 0)) j ws 0 (λ i w l. cleared_out (j + 0) i w l)
each_cleared (suc m) j [] h = absurd (omega arith)
each_cleared (suc m) j (w ∷ ws) h =
    ap₂ ◌∷◌ (cleared_in (j + suc m) j w (omega arith))
    (subst (λ (n : ℕ). each (cleared_word n) (suc j) ws ≡ replicate m 0 ++ drop m ws) (let e : suc j + m ≡ j + suc m = omega arith in e) (each_cleared m (suc j) ws (omega arith)))

pub cleared_parts : (ws : List ℕ) → replicate (8 * (length ws / 8)) 0 ++ drop (8 * (length ws / 8)) ws ≡ cleared ws
unfolding cleared
cleared_parts ws = sym (subst (λ (n : ℕ). each (cleared_word n) 0 ws ≡ replicate (8 * (length ws / 8)) 0 ++ drop (8 * (length ws / 8)) ws)
    (let e : 0 + 8 * (length ws / 8) ≡ 8 * (length ws / 8) = omega arith in e) (each_cleared (8 * (length ws / 8)) 0 ws (omega arith)))
