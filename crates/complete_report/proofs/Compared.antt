-- What the check's answers say: a list compares as the same exactly where it is the report; else where it differs, or where the report ends.
use Prim.Native.Nat.{ℕ, suc, ◌+◌}
use mathlib.Core.Path.{◌≡◌, refl, sym, ap, ap₂, subst, ◌∙◌}
use mathlib.Core.Logic.{◌↔◌, inl, inr, ⊎_elim}
use mathlib.Core.Bool.{Bool, true, false, cond, false≢true}
use mathlib.Core.List.{List, [], ◌∷◌}
use native.Mathlib.Nat.{zero-add}
use native.Mathlib.Omega.{arith}
use Rattle.complete_report.specs.declared.Violation.{Violation}
use Rattle.complete_report.specs.declared.Comparison.TheVariants.{Same, Differs, Ends}
use Rattle.complete_report.specs.Report.{compared}
use Rattle.complete_report.specs.Lists.{same}
use Rattle.complete_report.specs.Said.{DiffersAt, EndsAt}
use Rattle.complete_report.proofs.Orders.{same_self, same_equal, equal_same}

-- ---- the answers are three

same_differs : {A : Type 0} {i : ℕ} {v : Violation} → Same ≡ Differs i v → A
same_differs e = let z : ◌≡◌ {A = ℕ} 0 1 = cc in absurd (omega arith)

same_ends : {A : Type 0} {i : ℕ} → Same ≡ Ends i → A
same_ends e = let z : ◌≡◌ {A = ℕ} 0 1 = cc in absurd (omega arith)

differs_ends : {A : Type 0} {i j : ℕ} {v : Violation} → Differs i v ≡ Ends j → A
differs_ends e = let z : ◌≡◌ {A = ℕ} 0 1 = cc in absurd (omega arith)

differs_index : {i j : ℕ} {v w : Violation} → Differs i v ≡ Differs j w → i ≡ j
differs_index e = cc

differs_entry : {i j : ℕ} {v w : Violation} → Differs i v ≡ Differs j w → v ≡ w
differs_entry e = cc

ends_index : {i j : ℕ} → Ends i ≡ Ends j → i ≡ j
ends_index e = cc

-- ---- the same

pub compared_self : (k : ℕ) (list : List Violation) → compared k list list ≡ Same
unfolding compared
compared_self k [] = refl
compared_self k (v ∷ list) = rw (same_self v) (compared_self (suc k) list)

pub compared_same : (k : ℕ) (claimed report : List Violation) → compared k claimed report ≡ Same → claimed ≡ report
unfolding compared
compared_same k [] [] h = refl
compared_same k [] (v ∷ report) h = same_differs (sym h)
compared_same k (c ∷ claimed) [] h = same_ends (sym h)
compared_same k (c ∷ claimed) (v ∷ report) h = go (same c v) refl h (compared_same (suc k) claimed report)
  where
    go : (b : Bool) → same c v ≡ b → cond b (compared (suc k) claimed report) (Differs k v) ≡ Same → (compared (suc k) claimed report ≡ Same → claimed ≡ report)
        → c ∷ claimed ≡ v ∷ report
    go true e l next = ap₂ (λ (x : Violation) (list : List Violation). x ∷ list) (same_equal c v e) (next l)
    go false e l next = same_differs (sym l)

pub same_exactly : (claimed report : List Violation) → (compared 0 claimed report ≡ Same) ↔ (claimed ≡ report)
same_exactly claimed report = (compared_same 0 claimed report, λ e. ap (compared 0 claimed) (sym e) ∙ compared_self 0 claimed)

-- ---- an entry that differs

-- The entries are numbered from k on.
differs_from : (k : ℕ) (claimed report : List Violation) (i : ℕ) (v : Violation) → compared k claimed report ≡ Differs i v
    → (j : ℕ) × (i ≡ k + j) × DiffersAt claimed report j v
unfolding compared
differs_from k [] [] i v h = same_differs h
differs_from k [] (w ∷ report) i v h = (
  0,
  omega (arith, differs_index h),
  record { alike = refl; in_report = omega arith; stands = differs_entry h; other = inl refl },
)
differs_from k (c ∷ claimed) [] i v h = differs_ends (sym h)
differs_from k (c ∷ claimed) (w ∷ report) i v h = go (same c w) refl h (differs_from (suc k) claimed report i v)
  where
    further : same c w ≡ true → (j : ℕ) × (i ≡ suc k + j) × DiffersAt claimed report j v → (j : ℕ) × (i ≡ k + j) × DiffersAt (c ∷ claimed) (w ∷ report) j v
    further e (j, q, d) = (
      suc j,
      omega arith,
      record {
        alike = ap₂ (λ (x : Violation) (list : List Violation). x ∷ list) (same_equal c w e) d.alike;
        in_report = omega (arith, d.in_report);
        stands = d.stands;
        other = ⊎_elim (λ l. inl (ap suc l)) (λ l. inr (omega (arith, l.0), l.1)) d.other;
      },
    )

    go : (b : Bool) → same c w ≡ b → cond b (compared (suc k) claimed report) (Differs k w) ≡ Differs i v
        → (compared (suc k) claimed report ≡ Differs i v → (j : ℕ) × (i ≡ suc k + j) × DiffersAt claimed report j v)
        → (j : ℕ) × (i ≡ k + j) × DiffersAt (c ∷ claimed) (w ∷ report) j v
    go true e l next = further e (next l)
    go false e l next = (
      0,
      omega (arith, differs_index l),
      record {
        alike = refl;
        in_report = omega arith;
        stands = differs_entry l;
        other = inr (omega arith, λ x. false≢true (sym e ∙ equal_same c w (x ∙ sym (differs_entry l))));
      },
    )

pub differs_said : (claimed report : List Violation) (i : ℕ) (v : Violation) → compared 0 claimed report ≡ Differs i v → DiffersAt claimed report i v
differs_said claimed report i v h =
    let d = differs_from 0 claimed report i v h in
    subst (λ (j : ℕ). DiffersAt claimed report j v) (sym (d.1 ∙ zero-add d.0)) d.2

-- ---- the end of the report

ends_from : (k : ℕ) (claimed report : List Violation) (i : ℕ) → compared k claimed report ≡ Ends i → (j : ℕ) × (i ≡ k + j) × EndsAt claimed report j
unfolding compared
ends_from k [] [] i h = same_ends h
ends_from k [] (w ∷ report) i h = differs_ends h
ends_from k (c ∷ claimed) [] i h = (0, omega (arith, ends_index h), record { alike = refl; ends = refl; goes_on = omega arith })
ends_from k (c ∷ claimed) (w ∷ report) i h = go (same c w) refl h (ends_from (suc k) claimed report i)
  where
    further : same c w ≡ true → (j : ℕ) × (i ≡ suc k + j) × EndsAt claimed report j → (j : ℕ) × (i ≡ k + j) × EndsAt (c ∷ claimed) (w ∷ report) j
    further e (j, q, d) = (
      suc j,
      omega arith,
      record {
        alike = ap₂ (λ (x : Violation) (list : List Violation). x ∷ list) (same_equal c w e) d.alike;
        ends = ap suc d.ends;
        goes_on = omega (arith, d.goes_on);
      },
    )

    go : (b : Bool) → same c w ≡ b → cond b (compared (suc k) claimed report) (Differs k w) ≡ Ends i
        → (compared (suc k) claimed report ≡ Ends i → (j : ℕ) × (i ≡ suc k + j) × EndsAt claimed report j)
        → (j : ℕ) × (i ≡ k + j) × EndsAt (c ∷ claimed) (w ∷ report) j
    go true e l next = further e (next l)
    go false e l next = differs_ends l

pub ends_said : (claimed report : List Violation) (i : ℕ) → compared 0 claimed report ≡ Ends i → EndsAt claimed report i
ends_said claimed report i h =
    let d = ends_from 0 claimed report i h in
    subst (EndsAt claimed report) (sym (d.1 ∙ zero-add d.0)) d.2
