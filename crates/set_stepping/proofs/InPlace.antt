-- Words of a report that become groups in place, from the last one down: ticks become pairs, and pairs become triples.
use Prim.Native.Nat.{ℕ, suc, ◌+◌, ◌*◌, ◌≤◌, ◌<◌}
use mathlib.Core.Path.{◌≡◌, refl, sym, ap, ◌∙◌}
use mathlib.Core.List.{List, [], ◌∷◌, ◌++◌, append_assoc}
use native.Mathlib.Omega.{arith}
use native.Mathlib.Numerals.{add-one}
use lib.ListN.{length, get_or, take, drop, set, length-take, drop_of_length-le}
use lib.Seq.{sets, sets-eq, take-take, take_at, drop_at, drop-cons, get_or-take, length-take-le}
use Rattle.demand.specs.SetContract.{numbered, timed}

-- A group is stored before those that are there.
module _ (report₀ report group rest : List ℕ) (at : ℕ) (fits : at + length group ≤ length report)
    (front : take (at + length group) report ≡ take (at + length group) report₀) (after : drop (at + length group) report ≡ rest) where
  stored : sets report at group ≡ take at report ++ (group ++ rest)
  stored =
      sets-eq group report at fits ∙ append_assoc (take at report) group (drop (at + length group) report)
      ∙ ap (λ (l : List ℕ). take at report ++ (group ++ l)) after

  long : length (take at report) ≡ at
  long = length-take-le at report (omega arith)

  pub put_front : take at (sets report at group) ≡ take at report₀
  put_front =
      ap (take at) stored ∙ take_at (take at report) (group ++ rest) at long
      ∙ sym (take-take at (at + length group) report (omega arith)) ∙ ap (take at) front ∙ take-take at (at + length group) report₀ (omega arith)

  pub put_rest : drop at (sets report at group) ≡ group ++ rest
  put_rest = ap (drop at) stored ∙ drop_at (take at report) (group ++ rest) at long

-- A word that the groups have not reached is as it was.
pub same_word : (report₀ report : List ℕ) (n i : ℕ) → i < n → take n report ≡ take n report₀ → get_or report i 0 ≡ get_or report₀ i 0
same_word report₀ report n i h front =
    sym (get_or-take n report i 0 h) ∙ ap (λ (l : List ℕ). get_or l i 0) front ∙ get_or-take n report₀ i 0 h

-- ---- ticks become pairs of a rule and a tick

abbrev pub NumberedFrom : List ℕ → ℕ → ℕ → ℕ → List ℕ → Type 0
NumberedFrom report₀ n rule j report =
    (length report ≡ length report₀) × ((take (2 * j) report ≡ take (2 * j) report₀)
    × (drop (2 * j) report ≡ numbered rule (drop j (take n report₀)) ++ drop (2 * n) report₀))

module _ (report₀ : List ℕ) (n rule : ℕ) (fits : 2 * n ≤ length report₀) where
  pub numbered_none : NumberedFrom report₀ n rule n report₀
  numbered_none =
      let e : drop n (take n report₀) ≡ [] = drop_of_length-le (take n report₀) {i = n} (omega (arith, length-take n report₀)) in
      (refl, (refl, rw e refl))

  pub numbered_turn : (report : List ℕ) (j : ℕ) → j < n → NumberedFrom report₀ n rule (suc j) report
      → (take (2 * j) (set (set report (2 * j) rule) (2 * j + 1) (get_or report j 0)) ≡ take (2 * j) report₀)
      × (drop (2 * j) (set (set report (2 * j) rule) (2 * j + 1) (get_or report j 0)) ≡ numbered rule (drop j (take n report₀)) ++ drop (2 * n) report₀)
  numbered_turn report j below (same, (front, rest)) =
      let T = take n report₀ in
      let e : 2 * j + 2 ≡ 2 * suc j = omega arith in
      let tick : get_or report j 0 ≡ get_or T j 0 =
      same_word report₀ report (2 * suc j) j (omega arith) front ∙ sym (get_or-take n report₀ j 0 below) in
      let group = rule ∷ get_or report j 0 ∷ [] in
      let rest' : drop (2 * j + 2) report ≡ numbered rule (drop (suc j) T) ++ drop (2 * n) report₀ = rw e rest in
      let front' : take (2 * j + 2) report ≡ take (2 * j + 2) report₀ = rw e front in
      let more : numbered rule (drop j T) ≡ rule ∷ get_or report j 0 ∷ numbered rule (drop (suc j) T) =
      ap (numbered rule) (drop-cons T j 0 (omega (arith, length-take-le n report₀ (omega arith)))) ∙ ap (λ (t : ℕ). rule ∷ t ∷ numbered rule (drop (suc j) T)) (sym tick) in
      rw (add-one (2 * j), more) (
        put_front report₀ report group (numbered rule (drop (suc j) T) ++ drop (2 * n) report₀) (2 * j) (omega arith) front' rest',
        put_rest report₀ report group (numbered rule (drop (suc j) T) ++ drop (2 * n) report₀) (2 * j) (omega arith) front' rest',
      )

-- ---- pairs become triples, with the step after them

abbrev pub TimedFrom : List ℕ → ℕ → ℕ → ℕ → List ℕ → Type 0
TimedFrom report₀ n step j report =
    (length report ≡ length report₀) × ((take (3 * j) report ≡ take (3 * j) report₀)
    × (drop (3 * j) report ≡ timed step (drop (2 * j) (take (2 * n) report₀)) ++ drop (3 * n) report₀))

module _ (report₀ : List ℕ) (n step : ℕ) (fits : 3 * n ≤ length report₀) where
  pub timed_none : TimedFrom report₀ n step n report₀
  timed_none =
      let e : drop (2 * n) (take (2 * n) report₀) ≡ [] = drop_of_length-le (take (2 * n) report₀) {i = 2 * n} (omega (arith, length-take (2 * n) report₀)) in
      (refl, (refl, rw e refl))

  abbrev turned : List ℕ → ℕ → List ℕ
  turned report j = set (set (set report (3 * j) (get_or report (2 * j) 0)) (3 * j + 1) (get_or report (2 * j + 1) 0)) (3 * j + 2) step

  pub timed_turn : (report : List ℕ) (j : ℕ) → j < n → TimedFrom report₀ n step (suc j) report
      → (take (3 * j) (turned report j) ≡ take (3 * j) report₀)
      × (drop (3 * j) (turned report j) ≡ timed step (drop (2 * j) (take (2 * n) report₀)) ++ drop (3 * n) report₀)
  timed_turn report j below (same, (front, rest)) =
      let P = take (2 * n) report₀ in
      let e : 3 * j + 3 ≡ 3 * suc j = omega arith in
      let e₂ : suc (suc (2 * j)) ≡ 2 * suc j = omega arith in
      let a₁ : 2 * j + 1 ≡ suc (2 * j) = omega arith in
      let a₂ : 3 * j + 1 ≡ suc (3 * j) = omega arith in
      let a₃ : 3 * j + 2 ≡ suc (suc (3 * j)) = omega arith in
      let long : length P ≡ 2 * n = length-take-le (2 * n) report₀ (omega arith) in
      let rule : get_or report (2 * j) 0 ≡ get_or P (2 * j) 0 =
      same_word report₀ report (3 * suc j) (2 * j) (omega arith) front ∙ sym (get_or-take (2 * n) report₀ (2 * j) 0 (omega arith)) in
      let tick : get_or report (suc (2 * j)) 0 ≡ get_or P (suc (2 * j)) 0 =
      same_word report₀ report (3 * suc j) (suc (2 * j)) (omega arith) front ∙ sym (get_or-take (2 * n) report₀ (suc (2 * j)) 0 (omega arith)) in
      let group = get_or report (2 * j) 0 ∷ get_or report (suc (2 * j)) 0 ∷ step ∷ [] in
      let tail = timed step (drop (2 * suc j) P) ++ drop (3 * n) report₀ in
      let rest' : drop (3 * j + 3) report ≡ tail = rw e rest in
      let front' : take (3 * j + 3) report ≡ take (3 * j + 3) report₀ = rw e front in
      let pair : drop (2 * j) P ≡ get_or report (2 * j) 0 ∷ get_or report (suc (2 * j)) 0 ∷ drop (2 * suc j) P =
      drop-cons P (2 * j) 0 (omega arith)
      ∙ ap (λ (l : List ℕ). get_or P (2 * j) 0 ∷ l) (drop-cons P (suc (2 * j)) 0 (omega arith))
      ∙ ap (λ (l : List ℕ). get_or P (2 * j) 0 ∷ get_or P (suc (2 * j)) 0 ∷ l) (ap (λ (k : ℕ). drop k P) e₂)
      ∙ ap (λ (v : ℕ). v ∷ get_or P (suc (2 * j)) 0 ∷ drop (2 * suc j) P) (sym rule)
      ∙ ap (λ (v : ℕ). get_or report (2 * j) 0 ∷ v ∷ drop (2 * suc j) P) (sym tick) in
      rw (a₁, a₂, a₃, pair) (
        put_front report₀ report group tail (3 * j) (omega arith) front' rest',
        put_rest report₀ report group tail (3 * j) (omega arith) front' rest',
      )
