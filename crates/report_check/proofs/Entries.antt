-- The first entries of a list, from one place to the next.
use Prim.{⊥}
use Prim.Native.Nat.{ℕ, zero, suc, ◌+◌, ◌-◌, ◌≤◌, ◌<◌}
use mathlib.Core.Path.{◌≡◌, refl, sym, ap, ◌∙◌, subst}
use mathlib.Core.Bool.{Bool, true, false}
use mathlib.Core.List.{List, [], ◌∷◌}
use native.Mathlib.Nat.{zero-add}
use native.Mathlib.Numerals.{add-one}
use native.Mathlib.Omega.{arith}
use lib.ListN.{length, get_or, take, drop, drop_of_length-le}
use lib.Seq.{get_or-take, length-take-le}
use Rattle.complete_report.specs.declared.Violation.{Violation}
use Rattle.complete_report.specs.Lists.{none_lent}
use Rattle.complete_report.specs.Order.{before}
use Rattle.report_check.specs.Checking.{is_violation, above_at, agreed, place, earlier, missing_at, first_missing}
use Rattle.report_check.specs.Marks.{marked, all_marked}

-- ---- whether an entry ascends

pub at_first : (claimed : List Violation) (index : ℕ) → index ≡ 0 → true ≡ above_at claimed index (get_or claimed index none_lent)
unfolding above_at
at_first claimed zero e = refl
at_first claimed (suc index) e = absurd (omega arith)

pub at_later : (claimed : List Violation) (index : ℕ) → (index ≡ 0 → ⊥) → (v w : Violation) {r : Bool} → v ≡ get_or claimed (index - 1) none_lent
    → w ≡ get_or claimed index none_lent → r ≡ before v w → r ≡ above_at claimed index (get_or claimed index none_lent)
unfolding above_at
at_later claimed zero n v w a b e = absurd (n refl)
at_later claimed (suc index) n v w a b e =
    e ∙ ap (λ (x : Violation). before x w) (a ∙ ap (λ (i : ℕ). get_or claimed i none_lent) (omega arith)) ∙ ap (before (get_or claimed index none_lent)) b

-- ---- from one entry to the next

drop_next : {A : Type 0} (list : List A) (index : ℕ) (d : A) → index < length list → drop index list ≡ get_or list index d ∷ drop (suc index) list
drop_next [] index d h = absurd (omega arith)
drop_next (x ∷ list) zero d h = refl
drop_next (x ∷ list) (suc index) d h = drop_next list index d (omega arith)

-- ---- how many agree

module _ (steps : ℕ → ℕ) (end : ℕ) (claimed : List Violation) where
  -- How many agree: those before a place, and those from it on.
  abbrev pub Agrees : ℕ → Type 0
  Agrees index = agreed steps end (λ v. true) claimed ≡ index + agreed steps end (above_at claimed index) (drop index claimed)

  pub agrees_at_first : Agrees 0
  unfolding above_at
  agrees_at_first = sym (zero-add (agreed steps end (λ v. true) claimed))

  module _ (index : ℕ) (inside : index < length claimed) (so_far : Agrees index) where
    abbrev entry : Violation
    entry = get_or claimed index none_lent

    -- It stops here.
    stopped : agreed steps end (above_at claimed index) (entry ∷ drop (suc index) claimed) ≡ 0 → index ≡ agreed steps end (λ v. true) claimed
    stopped e = omega (arith, so_far, ap (agreed steps end (above_at claimed index)) (drop_next claimed index none_lent inside) ∙ e)

    pub not_above : above_at claimed index entry ≡ false → index ≡ agreed steps end (λ v. true) claimed
    unfolding agreed
    not_above e = stopped (rw e refl)

    pub no_violation : above_at claimed index entry ≡ true → is_violation steps end entry ≡ false → index ≡ agreed steps end (λ v. true) claimed
    unfolding agreed
    no_violation a e = stopped (rw (a, e) refl)

    goes_on : above_at claimed index entry ≡ true → is_violation steps end entry ≡ true
        → agreed steps end (above_at claimed index) (entry ∷ drop (suc index) claimed) ≡ suc (agreed steps end (above_at claimed (suc index)) (drop (suc index) claimed))
    unfolding agreed above_at
    goes_on a e = rw (a, e) refl

    pub one_more : above_at claimed index entry ≡ true → is_violation steps end entry ≡ true → Agrees (index + 1)
    one_more a e =
        subst Agrees (sym (add-one index))
        (omega (arith, so_far, ap (agreed steps end (above_at claimed index)) (drop_next claimed index none_lent inside) ∙ goes_on a e))

  pub agrees_to_the_end : (index : ℕ) → length claimed ≤ index → Agrees index → index ≡ agreed steps end (λ v. true) claimed
  unfolding agreed
  agrees_to_the_end index h e =
      let z : agreed steps end (above_at claimed index) [] ≡ 0 = refl in
      omega (arith, e, ap (agreed steps end (above_at claimed index)) (drop_of_length-le claimed h) ∙ z)

-- ---- the marks of the first entries

marked_next : (marks : List ℕ) (list : List Violation) (index : ℕ) → index < length list
    → marked (all_marked marks (take index list)) (get_or list index none_lent).tick ≡ all_marked marks (take (suc index) list)
unfolding all_marked
marked_next marks [] index h = absurd (omega arith)
marked_next marks (v ∷ list) zero h = refl
marked_next marks (v ∷ list) (suc index) h = marked_next (marked marks v.tick) list index (omega arith)

pub marked_more : (marks : List ℕ) (list : List Violation) (index : ℕ) → index < length list
    → marked (all_marked marks (take index list)) (get_or list index none_lent).tick ≡ all_marked marks (take (index + 1) list)
marked_more marks list index h = marked_next marks list index h ∙ ap (λ (n : ℕ). all_marked marks (take n list)) (sym (add-one index))

-- ---- the place of a violation among the first entries

-- The place: the entries before this one, and those from it on that come before the violation.
abbrev pub Placed : Violation → List Violation → ℕ → ℕ → Type 0
Placed v claimed count index = place v (take count claimed) ≡ index + place v (drop index (take count claimed))

pub placed_at_first : (v : Violation) (claimed : List Violation) (count : ℕ) → Placed v claimed count 0
placed_at_first v claimed count = sym (zero-add (place v (take count claimed)))

module _ (v : Violation) (claimed : List Violation) (count : ℕ) (few : count ≤ length claimed) where
  abbrev front : List Violation
  front = take count claimed

  module _ (index : ℕ) (inside : index < count) (so_far : Placed v claimed count index) (w : Violation) (r : Bool) (read : w ≡ get_or claimed index none_lent) (tested : r ≡ before w v) where
    entry_there : drop index front ≡ w ∷ drop (suc index) front
    entry_there =
        drop_next front index none_lent (omega (arith, length-take-le count claimed few, inside))
        ∙ ap (λ (x : Violation). x ∷ drop (suc index) front) (get_or-take count claimed index none_lent inside ∙ sym read)

    pub not_before : r ≡ false → index ≡ place v front
    unfolding place
    not_before e =
        let z : place v (w ∷ drop (suc index) front) ≡ 0 = rw (sym tested ∙ e) refl in
        omega (arith, so_far, ap (place v) entry_there ∙ z)

    pub one_before : r ≡ true → Placed v claimed count (index + 1)
    unfolding place
    one_before e =
        let z : place v (w ∷ drop (suc index) front) ≡ suc (place v (drop (suc index) front)) = rw (sym tested ∙ e) refl in
        subst (Placed v claimed count) (sym (add-one index)) (omega (arith, so_far, ap (place v) entry_there ∙ z))

  pub placed_last : (index : ℕ) → count ≤ index → Placed v claimed count index → index ≡ place v front
  unfolding place
  placed_last index h e =
      let z : place v [] ≡ 0 = refl in
      omega (arith, e, ap (place v) (drop_of_length-le front {i = index} (omega (arith, h, length-take-le count claimed few))) ∙ z)

-- ---- the first violation that was not met

module _ (steps : ℕ → ℕ) (end : ℕ) (met : ℕ → Bool) where
  pub missing_less : (count : ℕ) (first : Violation) → 0 < count → {v w : Violation} → v ≡ missing_at steps end met (count - 1) → w ≡ earlier v first
      → first_missing steps end met count first ≡ first_missing steps end met (count - 1) w
  unfolding first_missing
  missing_less zero first h a b = absurd (omega arith)
  missing_less (suc count) first h {v} {w} a b =
      ap (first_missing steps end met count) (sym (b ∙ ap (λ (x : Violation). earlier x first) (a ∙ ap (missing_at steps end met) less))) ∙ ap (λ (n : ℕ). first_missing steps end met n w) (sym less)
    where
      less : suc count - 1 ≡ count
      less = omega arith

  pub missing_none : (count : ℕ) (first : Violation) → count ≡ 0 → first_missing steps end met count first ≡ first
  unfolding first_missing
  missing_none zero first e = refl
  missing_none (suc count) first e = absurd (omega arith)
