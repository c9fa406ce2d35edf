-- Laws of the lists of a set: parts of the table, the place of each rule, pairs.
use Prim.Native.Nat.{ℕ, zero, suc, ◌+◌, ◌*◌, ◌-◌, ◌≤◌, ◌<◌}
use mathlib.Core.Path.{◌≡◌, refl, sym, ap, subst, ◌∙◌}
use mathlib.Core.Bool.{Bool, true, false, cond}
use mathlib.Core.List.{List, [], ◌∷◌, ◌++◌, append_assoc, append-nil}
use native.Mathlib.Nat.{add-zero, zero-add, suc-add, not-suc-le-zero, le_of_suc-le-suc}
use native.Mathlib.Omega.{arith}
use lib.Dec.{eqb}
use lib.ListN.{length, get_or, take, drop, length-take, length-drop, length-append}
use lib.Seq.{take-take, take-append-le, take_at, drop_at, drop-drop, length-take-le}
use borrow.Author.Tests.{eq-eqb, ne_eqb}
use Rattle.refusal.specs.Answer.{accepted, and_then}
use Rattle.refusal.proofs.Answers.{same_value, both_accepted}
use Rattle.rule.specs.declared.Figures.{Figures}
use Rattle.rule.specs.Figures.{body_figures}
use Rattle.demand.specs.SetContract.{all_cells, largest, numbered, all_numbered, how_many, ticks_of, all_figures}
use Rattle.demand.specs.SetDemand.{no_figures}

-- ---- a part of a list

-- `size` words from word `first` on.
abbrev pub part : ℕ → ℕ → List ℕ → List ℕ
part first size l = take size (drop first l)

pub part_length : (c n : ℕ) (l : List ℕ) → c + n ≤ length l → length (part c n l) ≡ n
part_length c n l h = omega (arith, length-take n (drop c l), length-drop c l)

pub part_take : (c n m : ℕ) (l : List ℕ) → c + n ≤ m → part c n (take m l) ≡ part c n l
part_take zero n m l h = take-take n m l (omega arith)
part_take (suc c) n zero l h = absurd (omega arith)
part_take (suc c) n (suc m) [] h = refl
part_take (suc c) n (suc m) (x ∷ xs) h = part_take c n m xs (omega arith)

pub part_append : (c n : ℕ) (l r : List ℕ) → c + n ≤ length l → part c n (l ++ r) ≡ part c n l
part_append zero n l r h = take-append-le n l r (omega arith)
part_append (suc c) n [] r h = absurd (omega arith)
part_append (suc c) n (x ∷ xs) r h = part_append c n xs r (omega arith)

-- ---- a part written

-- n words of l from word a on are now ys: what a part that was lent to be written leaves.
abbrev pub spliced : ℕ → ℕ → List ℕ → List ℕ → List ℕ
spliced a n l ys = take a l ++ (ys ++ drop n (drop a l))

module _ (a n : ℕ) (l ys : List ℕ) (room : a + n ≤ length l) (size : length ys ≡ n) where
  front : length (take a l) ≡ a
  front = length-take-le a l (omega arith)

  pub spliced_length : length (spliced a n l ys) ≡ length l
  spliced_length =
      omega (arith, size, front, length-append (take a l) (ys ++ drop n (drop a l)), length-append ys (drop n (drop a l)), length-drop n (drop a l), length-drop a l)

  from_a : drop a (spliced a n l ys) ≡ ys ++ drop n (drop a l)
  from_a = drop_at (take a l) (ys ++ drop n (drop a l)) a front

  pub spliced_own : part a n (spliced a n l ys) ≡ ys
  spliced_own = ap (take n) from_a ∙ take_at ys (drop n (drop a l)) n size

  pub spliced_before : (b m : ℕ) → b + m ≤ a → part b m (spliced a n l ys) ≡ part b m l
  spliced_before b m h = part_append b m (take a l) (ys ++ drop n (drop a l)) (omega (arith, front)) ∙ part_take b m a l h

  just_after : drop (a + n) (spliced a n l ys) ≡ drop (a + n) l
  just_after = sym (drop-drop n a (spliced a n l ys)) ∙ ap (drop n) from_a ∙ drop_at ys (drop n (drop a l)) n size ∙ drop-drop n a l

  pub spliced_after : (b : ℕ) → a + n ≤ b → drop b (spliced a n l ys) ≡ drop b l
  spliced_after b h =
      let e : (a + n) + (b - (a + n)) ≡ b = omega arith in
      subst (λ (j : ℕ). drop j (spliced a n l ys) ≡ drop j l) e
      (sym (drop-drop (b - (a + n)) (a + n) (spliced a n l ys)) ∙ ap (drop (b - (a + n))) just_after ∙ drop-drop (b - (a + n)) (a + n) l)

-- ---- figures of all rules

pub cells_inside : (fs : List Figures) (i : ℕ) → i < length fs → all_cells (take i fs) + (get_or fs i no_figures).cells ≤ all_cells fs
cells_inside [] i h = absurd (omega arith)
cells_inside (f ∷ fs) zero h = omega arith
cells_inside (f ∷ fs) (suc i) h = omega (arith, cells_inside fs i (omega arith))

pub history_inside : (fs : List Figures) (i : ℕ) → i < length fs → (get_or fs i no_figures).history ≤ largest fs
history_inside [] i h = absurd (omega arith)
history_inside (f ∷ fs) zero h = omega arith
history_inside (f ∷ fs) (suc i) h = omega (arith, history_inside fs i (omega arith))

-- The first rule that pushes the sum above a limit exists exactly where the whole sum is above it.
pub cells_prefix : (fs : List Figures) (i : ℕ) → all_cells (take i fs) ≤ all_cells fs
cells_prefix [] zero = omega arith
cells_prefix [] (suc i) = omega arith
cells_prefix (f ∷ fs) zero = omega arith
cells_prefix (f ∷ fs) (suc i) = omega (arith, cells_prefix fs i)

-- The cells of a later rule begin where those of an earlier one have ended.
pub cells_apart : (fs : List Figures) (i j : ℕ) → i < j → j < length fs
    → all_cells (take i fs) + (get_or fs i no_figures).cells ≤ all_cells (take j fs)
cells_apart [] i j h k = absurd (omega arith)
cells_apart (f ∷ fs) i zero h k = absurd (omega arith)
cells_apart (f ∷ fs) zero (suc j) h k = omega arith
cells_apart (f ∷ fs) (suc i) (suc j) h k = omega (arith, cells_apart fs i j (omega arith) (omega arith))

pub record AllFigures (bs : List (List ℕ)) (fs : List Figures) : Type 0 where
  pub as_many : length fs ≡ length bs
  pub each : (i : ℕ) → i < length bs → body_figures (get_or bs i []) ≡ accepted (get_or fs i no_figures)

pub all_figures_told : (bs : List (List ℕ)) (fs : List Figures) → all_figures bs ≡ accepted fs → AllFigures bs fs
unfolding all_figures
all_figures_told [] fs e =
    let q : [] ≡ fs = same_value e in
    subst (AllFigures []) q (record { as_many = refl; each = λ i h. absurd (not-suc-le-zero h) })
all_figures_told (b ∷ bs) fs e =
    let x = both_accepted (body_figures b) (λ f. and_then (all_figures bs) (λ gs. accepted (f ∷ gs))) fs e in
    let y = both_accepted (all_figures bs) (λ gs. accepted (x.0 ∷ gs)) fs x.2 in
    let r = all_figures_told bs y.0 y.1 in
    subst (AllFigures (b ∷ bs)) (same_value y.2) (record { as_many = ap suc r.as_many; each = go x.0 x.1 y.0 r })
  where
    go : (f : Figures) → body_figures b ≡ accepted f → (gs : List Figures) → AllFigures bs gs
        → (i : ℕ) → i < length (b ∷ bs) → body_figures (get_or (b ∷ bs) i []) ≡ accepted (get_or (f ∷ gs) i no_figures)
    go f p gs r zero h = p
    go f p gs r (suc i) h = r.each i (le_of_suc-le-suc h)

-- ---- pairs

pub ticks_numbered : (i j : ℕ) (l rest : List ℕ) (n : ℕ)
    → ticks_of i (length l + n) (numbered j l ++ rest) ≡ cond (eqb j i) (l ++ ticks_of i n rest) (ticks_of i n rest)
unfolding ticks_of
ticks_numbered i j [] rest n = rw (zero-add n) (go (eqb j i))
  where
    go : (b : Bool) → ticks_of i n rest ≡ cond b (ticks_of i n rest) (ticks_of i n rest)
    go true = refl
    go false = refl
ticks_numbered i j (p ∷ l) rest n = rw (suc-add (length l) n) (go (eqb j i) (ticks_numbered i j l rest n))
  where
    go : (b : Bool) → ticks_of i (length l + n) (numbered j l ++ rest) ≡ cond b (l ++ ticks_of i n rest) (ticks_of i n rest)
        → cond b (p ∷ ticks_of i (length l + n) (numbered j l ++ rest)) (ticks_of i (length l + n) (numbered j l ++ rest))
        ≡ cond b (p ∷ (l ++ ticks_of i n rest)) (ticks_of i n rest)
    go true h = ap (λ (r : List ℕ). p ∷ r) h
    go false h = h

ticks_below : (i j : ℕ) (ls : List (List ℕ)) (rest : List ℕ) → i < j → ticks_of i (how_many ls) (all_numbered j ls ++ rest) ≡ []
unfolding ticks_of
ticks_below i j [] rest h = refl
ticks_below i j (l ∷ ls) rest h =
    rw (append_assoc (numbered j l) (all_numbered (suc j) ls) rest, ticks_numbered i j l (all_numbered (suc j) ls ++ rest) (how_many ls), ne_eqb j i (λ e. omega arith))
    (ticks_below i (suc j) ls rest (omega arith))

pub ticks_all_numbered : (j m : ℕ) (ls : List (List ℕ)) (rest : List ℕ) → m < length ls → ticks_of (j + m) (how_many ls) (all_numbered j ls ++ rest) ≡ get_or ls m []
ticks_all_numbered j m [] rest h = absurd (not-suc-le-zero h)
ticks_all_numbered j zero (l ∷ ls) rest h =
    rw (add-zero j, append_assoc (numbered j l) (all_numbered (suc j) ls) rest, ticks_numbered j j l (all_numbered (suc j) ls ++ rest) (how_many ls), eq-eqb j j refl, ticks_below j (suc j) ls rest (omega arith))
    (append-nil l)
ticks_all_numbered j (suc m) (l ∷ ls) rest h =
    let q : j + suc m ≡ suc j + m = omega arith in
    rw (q, append_assoc (numbered j l) (all_numbered (suc j) ls) rest, ticks_numbered (suc j + m) j l (all_numbered (suc j) ls ++ rest) (how_many ls), ne_eqb j (suc j + m) (λ e. omega arith))
    (ticks_all_numbered (suc j) m ls rest (omega arith))

pub numbered_length : (i : ℕ) (l : List ℕ) → length (numbered i l) ≡ 2 * length l
numbered_length i [] = refl
numbered_length i (p ∷ l) = omega (arith, numbered_length i l)

pub all_numbered_length : (i : ℕ) (ls : List (List ℕ)) → length (all_numbered i ls) ≡ 2 * how_many ls
all_numbered_length i [] = refl
all_numbered_length i (l ∷ ls) = omega (arith, length-append (numbered i l) (all_numbered (suc i) ls), numbered_length i l, all_numbered_length (suc i) ls)
