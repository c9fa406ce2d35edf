-- The figures and the sums of some rules and one rule more, and how large the sums can be.
use Prim.Native.Nat.{ℕ, zero, suc, ◌+◌, ◌*◌, ◌≤◌, max}
use mathlib.Core.Path.{◌≡◌, refl, sym, ap}
use mathlib.Core.List.{List, [], ◌∷◌, ◌++◌}
use native.Mathlib.Omega.{arith}
use native.Mathlib.Nat.{add-zero}
use lib.ListN.{length, take, drop, length-append}
use Rattle.refusal.specs.Answer.{Answer, refused, accepted, and_then}
use Rattle.refusal.proofs.Answers.{not_accepted, same_value, both_accepted}
use Rattle.sheet.specs.Sheet.{body_offset, extent}
use Rattle.rule.specs.declared.Figures.{Figures}
use Rattle.rule.specs.Figures.{body_figures}
use Rattle.demand.specs.SetContract.{all_cells, all_delays, largest, bodies_from, all_figures}
use Rattle.admission.proofs.Admits.{small}
use Rattle.set_admission.specs.declared.sheet_figures.SetFigures.{SetFigures}
use Rattle.set_admission.specs.Together.{sums_of, summed, with_figures, SmallSums}

-- The body of an entry.
abbrev pub entry_body : List ℕ → ℕ → List ℕ
entry_body sheet index = take (extent sheet index) (drop (body_offset sheet index) sheet)

bodies_next : (n : ℕ) (s : List ℕ) (k : ℕ) → bodies_from (suc n) s k ≡ bodies_from n s k ++ (entry_body s (k + n) ∷ [])
unfolding bodies_from
bodies_next zero s k = rw add-zero refl
bodies_next (suc n) s k =
    let q : k + suc n ≡ suc k + n = omega arith in
    rw q (ap (λ (l : List (List ℕ)). entry_body s k ∷ l) (bodies_next n s (suc k)))

-- ---- the figures of one body more

figures_added : (x : Answer Figures) (xs ys : Answer (List Figures)) (y : Answer Figures) → ys ≡ and_then xs (λ fs. and_then y (λ f. accepted (fs ++ (f ∷ []))))
    → and_then x (λ f. and_then ys (λ rest. accepted (f ∷ rest)))
    ≡ and_then (and_then x (λ f. and_then xs (λ rest. accepted (f ∷ rest)))) (λ fs. and_then y (λ f. accepted (fs ++ (f ∷ []))))
unfolding and_then
figures_added (refused n) xs ys y e = refl
figures_added (accepted f) (refused n) ys y e = rw e
figures_added (accepted f) (accepted fs) ys (refused n) e = rw e
figures_added (accepted f) (accepted fs) ys (accepted g) e = rw e

pub all_figures_next : (bs : List (List ℕ)) (b : List ℕ)
    → all_figures (bs ++ (b ∷ [])) ≡ and_then (all_figures bs) (λ fs. and_then (body_figures b) (λ f. accepted (fs ++ (f ∷ []))))
unfolding all_figures and_then
all_figures_next [] b = refl
all_figures_next (x ∷ bs) b = figures_added (body_figures x) (all_figures bs) (all_figures (bs ++ (b ∷ []))) (body_figures b) (all_figures_next bs b)

-- ---- the sums of one rule more

pub largest_next : (fs : List Figures) (f : Figures) → largest (fs ++ (f ∷ [])) ≡ max (largest fs) f.history
largest_next [] f = omega arith
largest_next (g ∷ fs) f = let e = largest_next fs f in omega arith

pub cells_next : (fs : List Figures) (f : Figures) → all_cells (fs ++ (f ∷ [])) ≡ all_cells fs + f.cells
cells_next [] f = omega arith
cells_next (g ∷ fs) f = let e = cells_next fs f in omega arith

pub delays_next : (fs : List Figures) (f : Figures) → all_delays (fs ++ (f ∷ [])) ≡ all_delays fs + (f.delay + 1)
delays_next [] f = omega arith
delays_next (g ∷ fs) f = let e = delays_next fs f in omega arith

sums_next : (fs : List Figures) (f : Figures) → sums_of (fs ++ (f ∷ [])) ≡ with_figures (sums_of fs) f
sums_next fs f = rw (length-append fs (f ∷ []), largest_next fs f, cells_next fs f, delays_next fs f)

summed_added : (x : Answer (List Figures)) (y : Answer Figures)
    → summed (and_then x (λ fs. and_then y (λ f. accepted (fs ++ (f ∷ []))))) ≡ and_then (summed x) (λ sums. and_then y (λ f. accepted (with_figures sums f)))
unfolding and_then
summed_added (refused n) y = refl
summed_added (accepted fs) (refused n) = refl
summed_added (accepted fs) (accepted f) = ap accepted (sums_next fs f)

-- What the first i + 1 bodies need, by what the first i need.
pub summed_next : (s : List ℕ) (i : ℕ)
    → summed (all_figures (bodies_from (i + 1) s 0))
    ≡ and_then (summed (all_figures (bodies_from i s 0))) (λ sums. and_then (body_figures (entry_body s i)) (λ f. accepted (with_figures sums f)))
summed_next s i =
    let q : i + 1 ≡ suc i = omega arith in
    let z : 0 + i ≡ i = omega arith in
    let e : bodies_from (suc i) s 0 ≡ bodies_from i s 0 ++ (entry_body s i ∷ []) = rw z at (bodies_next i s 0) in
    rw (q, e, all_figures_next (bodies_from i s 0) (entry_body s i)) (summed_added (all_figures (bodies_from i s 0)) (body_figures (entry_body s i)))

-- A refusal among the first bodies is the answer of all.
pub refused_before : (s : List ℕ) (i d n : ℕ) → summed (all_figures (bodies_from i s 0)) ≡ refused n → summed (all_figures (bodies_from (i + d) s 0)) ≡ refused n
unfolding and_then
refused_before s i zero n e = rw (add-zero i) e
refused_before s i (suc d) n e =
    let q : i + suc d ≡ (i + d) + 1 = omega arith in
    rw (q, summed_next s (i + d), refused_before s i d n e) refl

-- ---- how large they are

pub record Small (n : ℕ) (fs : List Figures) : Type 0 where
  pub as_many : length fs ≡ n
  pub some_cells : all_cells fs ≤ 4096 * n
  pub some_pairs : all_delays fs ≤ 256 * n

pub all_small : (bs : List (List ℕ)) (fs : List Figures) → all_figures bs ≡ accepted fs → Small (length bs) fs
unfolding all_figures
all_small [] fs e = rw (← same_value e) (record { as_many = refl; some_cells = omega arith; some_pairs = omega arith })
all_small (b ∷ bs) fs e =
    let x = both_accepted (body_figures b) (λ (f : Figures). and_then (all_figures bs) (λ rest. accepted (f ∷ rest))) fs e in
    let y = both_accepted (all_figures bs) (λ (rest : List Figures). accepted (x.0 ∷ rest)) fs x.2 in
    let w = small b x.0 x.1 in
    let m = all_small bs y.0 y.1 in
    rw (← same_value y.2)
    (record {
      as_many = ap suc m.as_many;
      some_cells = omega (arith, w.few, m.some_cells);
      some_pairs = omega (arith, w.short, m.some_pairs);
    })

pub small_sums : (n : ℕ) (fs : List Figures) → Small n fs → n ≤ 32 → SmallSums (sums_of fs)
small_sums n fs m h =
    record {
      some_rules = omega (arith, m.as_many);
      some_cells = omega (arith, m.some_cells);
      some_pairs = omega (arith, m.some_pairs);
    }

-- ---- what summed figures say

pub summed_refused : (x : Answer (List Figures)) (n : ℕ) → refused n ≡ summed x → x ≡ refused n
unfolding and_then
summed_refused (refused m) n e = cc
summed_refused (accepted fs) n e = cc

pub summed_accepted : (x : Answer (List Figures)) {sums : SetFigures} → accepted sums ≡ summed x → (fs : List Figures) × (x ≡ accepted fs) × (sums ≡ sums_of fs)
unfolding and_then
summed_accepted (refused m) e = absurd (not_accepted (sym e))
summed_accepted (accepted fs) e = (fs, refl, same_value e)
