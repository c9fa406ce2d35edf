-- The words of `each`: their number, each of them, and those from a place on.
use mathlib.Core.Path.{◌≡◌, refl, sym, ap, ap₂, ◌∙◌}
use mathlib.Core.Bool.{Bool, cond}
use mathlib.Core.List.{List, [], ◌∷◌}
use Prim.{⊥}
use Prim.Native.Nat.{ℕ, zero, suc, ◌+◌, ◌/◌, ◌%◌, ◌≤◌, ◌<◌}
use native.Mathlib.Nat.{add-zero, le_of_suc-le-suc}
use native.Mathlib.Omega.{arith}
use lib.ListN.{length, get_or, drop}
use borrow.Author.Tests.{lt-ltb, le-ltb, eq-eqb, ne_eqb}
use Rattle.calendar.specs.Calendar.{each, cleared_word, marked_word, flagged}

pub length_each : (f : ℕ → ℕ → ℕ) (j : ℕ) (ws : List ℕ) → length (each f j ws) ≡ length ws
unfolding each
length_each f j [] = refl
length_each f j (w ∷ ws) = ap suc (length_each f (suc j) ws)

pub getD_each : (f : ℕ → ℕ → ℕ) (j : ℕ) (ws : List ℕ) (i : ℕ) → i < length ws → get_or (each f j ws) i 0 ≡ f (j + i) (get_or ws i 0)
unfolding each
getD_each f j [] i h = absurd (omega arith)
getD_each f j (w ∷ ws) zero h = ap (λ (x : ℕ). f x w) (sym (add-zero j))
getD_each f j (w ∷ ws) (suc i) h =
    getD_each f (suc j) ws i (le_of_suc-le-suc h) ∙ ap (λ (x : ℕ). f x (get_or ws i 0)) (let e : suc j + i ≡ j + suc i = omega arith in e)

-- from place n on nothing changes, if f changes nothing there
pub drop_each : (f : ℕ → ℕ → ℕ) (j : ℕ) (ws : List ℕ) (n : ℕ) → ((i w : ℕ) → j + n ≤ i → f i w ≡ w) → drop n (each f j ws) ≡ drop n ws
unfolding each
drop_each f j [] n h = refl
drop_each f j (w ∷ ws) zero h =
    ap₂ (λ (x : ℕ) (xs : List ℕ). x ∷ xs) (h j w (omega arith)) (drop_each f (suc j) ws zero (λ i v l. h i v (omega arith)))
drop_each f j (w ∷ ws) (suc n) h = drop_each f (suc j) ws n (λ i v l. h i v (omega arith))

-- ---- the two functions of a word

pub cleared_in : (n j w : ℕ) → j < n → cleared_word n j w ≡ 0
unfolding cleared_word
cleared_in n j w h = ap (λ (t : Bool). cond t 0 w) (lt-ltb j n h)

pub cleared_out : (n j w : ℕ) → n ≤ j → cleared_word n j w ≡ w
unfolding cleared_word
cleared_out n j w h = ap (λ (t : Bool). cond t 0 w) (le-ltb j n h)

pub marked_in : (t b j w : ℕ) → j / 8 ≡ t / 64 → marked_word t b j w ≡ flagged (t % 64) b (j % 8) w
unfolding marked_word
marked_in t b j w h = ap (λ (x : Bool). cond x (flagged (t % 64) b (j % 8) w) w) (eq-eqb (j / 8) (t / 64) h)

pub marked_out : (t b j w : ℕ) → (j / 8 ≡ t / 64 → ⊥) → marked_word t b j w ≡ w
unfolding marked_word
marked_out t b j w h = ap (λ (x : Bool). cond x (flagged (t % 64) b (j % 8) w) w) (ne_eqb (j / 8) (t / 64) h)
