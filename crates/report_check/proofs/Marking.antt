-- Marks: what a marked tick adds, and that the ticks of a list are the ones that are marked by it.
use Prim.{⊥}
use Prim.Native.Nat.{ℕ, zero, suc, ◌*◌, ◌/◌, ◌%◌, ◌≤◌, ◌<◌}
use mathlib.Core.Path.{◌≡◌, refl, sym, ap, ◌∙◌}
use mathlib.Core.Bool.{Bool, true, false, ◌||◌}
use mathlib.Core.List.{List, [], ◌∷◌}
use native.Mathlib.Nat.{div-add-mod}
use native.Mathlib.Omega.{arith}
use lib.Dec.{eqb}
use lib.ListN.{length, get_or, set, replicate, get_or-eq_default, length-set}
use lib.Seq.{get_or-set_same, get_or-set_other}
use borrow.Author.Tests.{eqb-true, eqb-false}
use Rattle.rule.specs.Meaning.{up}
use Rattle.calendar.specs.Calendar.{with_bit}
use Rattle.calendar.proofs.Marking.{with_bit_here, with_bit_other}
use Rattle.calendar.proofs.Stream.{up_zero}
use Rattle.complete_report.specs.declared.Violation.{Violation}
use Rattle.report_check.specs.Checking.{names}
use Rattle.report_check.specs.Marks.{is_marked, marked, all_marked}

-- ---- words of marks

-- A tick past the words is not marked.
pub past_words : (marks : List ℕ) (tick : ℕ) → length marks ≤ tick / 64 → is_marked marks tick ≡ false
unfolding is_marked
past_words marks tick h = ap (up (tick % 64)) (get_or-eq_default marks 0 h) ∙ up_zero (tick % 64)

-- None is marked at first.
pub none_marked : (count tick : ℕ) → is_marked (replicate count 0) tick ≡ false
unfolding is_marked
none_marked count tick = ap (up (tick % 64)) (zeros count (tick / 64)) ∙ up_zero (tick % 64)
  where
    zeros : (n i : ℕ) → ◌≡◌ {A = ℕ} (get_or (replicate n 0) i 0) 0
    zeros zero i = refl
    zeros (suc n) zero = refl
    zeros (suc n) (suc i) = zeros n i

-- ---- one tick more

module _ (marks : List ℕ) (t q : ℕ) (room : t / 64 < length marks) where
  here : t ≡ q → is_marked (marked marks t) q ≡ true
  unfolding is_marked marked
  here e =
      ap (λ (x : ℕ). up (x % 64) (get_or (set marks (t / 64) (with_bit (t % 64) (get_or marks (t / 64) 0))) (x / 64) 0)) (sym e)
      ∙ ap (up (t % 64)) (get_or-set_same marks (t / 64) (with_bit (t % 64) (get_or marks (t / 64) 0)) 0 room) ∙ with_bit_here (t % 64) (get_or marks (t / 64) 0)

  other : (t ≡ q → ⊥) → is_marked (marked marks t) q ≡ is_marked marks q
  unfolding is_marked marked
  other n = go (eqb (q / 64) (t / 64)) refl
    where
      word : ℕ
      word = get_or marks (t / 64) 0

      apart : q / 64 ≡ t / 64 → q % 64 ≡ t % 64 → ⊥
      apart a b = n (omega (arith, div-add-mod t 64, div-add-mod q 64))

      go : (b : Bool) → eqb (q / 64) (t / 64) ≡ b → up (q % 64) (get_or (set marks (t / 64) (with_bit (t % 64) word)) (q / 64) 0) ≡ up (q % 64) (get_or marks (q / 64) 0)
      go true e =
          let a = eqb-true (q / 64) (t / 64) e in
          ap (λ (i : ℕ). up (q % 64) (get_or (set marks (t / 64) (with_bit (t % 64) word)) i 0)) a
          ∙ ap (up (q % 64)) (get_or-set_same marks (t / 64) (with_bit (t % 64) word) 0 room) ∙ with_bit_other (t % 64) word (q % 64) (apart a)
          ∙ ap (λ (i : ℕ). up (q % 64) (get_or marks i 0)) (sym a)
      go false e = ap (up (q % 64)) (get_or-set_other marks (t / 64) (q / 64) (with_bit (t % 64) word) 0 (eqb-false (q / 64) (t / 64) e))

  pub mark_one : is_marked (marked marks t) q ≡ (eqb t q || is_marked marks q)
  mark_one = go (eqb t q) refl
    where
      go : (b : Bool) → eqb t q ≡ b → is_marked (marked marks t) q ≡ (b || is_marked marks q)
      go true e = here (eqb-true t q e)
      go false e = other (eqb-false t q e)

pub length_marked : (marks : List ℕ) (t : ℕ) → length (marked marks t) ≡ length marks
unfolding marked
length_marked marks t = length-set marks (t / 64) (with_bit (t % 64) (get_or marks (t / 64) 0))

-- ---- the ticks of a list

pub length_all_marked : (marks : List ℕ) (list : List Violation) → length (all_marked marks list) ≡ length marks
unfolding all_marked
length_all_marked marks [] = refl
length_all_marked marks (v ∷ list) = length_all_marked (marked marks v.tick) list ∙ length_marked marks v.tick

-- Every entry's tick is below `end`.
abbrev pub Below : ℕ → List Violation → Type 0
Below end [] = Unit {0}
Below end (v ∷ list) = (v.tick < end) × Below end list

pub marks_of_list : (marks : List ℕ) (list : List Violation) (end q : ℕ) → end ≤ 64 * length marks → Below end list
    → is_marked (all_marked marks list) q ≡ (names list q || is_marked marks q)
unfolding all_marked names
marks_of_list marks [] end q room below = refl
marks_of_list marks (v ∷ list) end q room below =
    marks_of_list (marked marks v.tick) list end q (omega (arith, room, length_marked marks v.tick)) below.1 ∙ ap (λ (b : Bool). names list q || b) (mark_one marks v.tick q (omega (arith, div-add-mod v.tick 64, below.0)))
    ∙ swapped (eqb v.tick q) (names list q) (is_marked marks q)
  where
    swapped : (a b c : Bool) → (b || (a || c)) ≡ ((a || b) || c)
    swapped true true c = refl
    swapped true false c = refl
    swapped false true c = refl
    swapped false false c = refl
