-- Violations that are there, and those that are not: the first of two, what a list compares as, and the step at a tick.
use Prim.Native.Nat.{ℕ, ◌≤◌, ◌<◌}
use mathlib.Core.Path.{◌≡◌, refl, sym, ap, ◌∙◌}
use mathlib.Core.Bool.{Bool, true, false, cond}
use mathlib.Core.List.{List}
use native.Mathlib.Omega.{arith}
use lib.Dec.{ltb, leb, eqb}
use borrow.Author.Tests.{ltb-true, ltb-false, le-ltb, leb-true, leb-false, ne_eqb}
use Rattle.std.specs.Option.{option_eq}
use Rattle.std.specs.Prelude.{Option, Some, None}
use Rattle.complete_report.specs.declared.Violation.{Violation}
use Rattle.complete_report.specs.Report.{violation}
use Rattle.complete_report.specs.Order.{before}
use Rattle.complete_report.specs.FalseSteps.{step_below}
use Rattle.complete_report.proofs.Orders.{is_before, not_before}
use Rattle.recorded_rule.proofs.Below.{below_some, below_none}
use Rattle.report_check.specs.Absent.{some_below, earlier_of, beside}
use Rattle.report_check.specs.Checking.{earlier, missing_at, comparison}

module _ (end : ℕ) where
  -- A violation that is there, and one that is not.
  pub there : (v : Violation) → ltb v.step end ≡ true → some_below end v ≡ Some v
  there v e = rw e

  pub not_there : (v : Violation) → ltb v.step end ≡ false → some_below end v ≡ None
  not_there v e = rw e

  pub none_at_end : None ≡ some_below end (violation end end)
  none_at_end = rw (le-ltb end end (omega arith))

  -- The first of two.
  pub first_below : (v w : Violation) → earlier_of (some_below end v) (some_below end w) ≡ some_below end (earlier v w)
  unfolding earlier
  first_below v w = go (ltb v.step end) refl (ltb w.step end) refl
    where
      both_there : ltb v.step end ≡ true → ltb w.step end ≡ true → (c : Bool) → cond c (Some v) (Some w) ≡ some_below end (cond c v w)
      both_there e f true = sym (there v e)
      both_there e f false = sym (there w f)

      none_there : ltb v.step end ≡ false → ltb w.step end ≡ false → (c : Bool) → None ≡ some_below end (cond c v w)
      none_there e f true = sym (not_there v e)
      none_there e f false = sym (not_there w f)

      go : (a : Bool) → ltb v.step end ≡ a → (b : Bool) → ltb w.step end ≡ b
          → earlier_of (cond a (Some v) None) (cond b (Some w) None) ≡ some_below end (cond (before v w) v w)
      go true e true f = both_there e f (before v w)
      go true e false f =
          let l : v.step < end = ltb-true v.step end e in
          let m : end ≤ w.step = ltb-false w.step end f in
          rw (is_before v w (omega arith, λ k. absurd (omega arith))) (sym (there v e))
      go false e true f =
          let l : end ≤ v.step = ltb-false v.step end e in
          let m : w.step < end = ltb-true w.step end f in
          rw (not_before v w (omega arith, λ k. absurd (omega arith))) (sym (there w f))
      go false e false f = none_there e f (before v w)

  -- The violation of a tick that is not marked.
  module _ (steps : ℕ → ℕ) (met : ℕ → Bool) (tick : ℕ) where
    pub met_is_none : met tick ≡ true → None ≡ some_below end (missing_at steps end met tick)
    unfolding missing_at
    met_is_none e = rw (e, le-ltb end end (omega arith))

    pub step_is_some : {step : ℕ} → met tick ≡ false → Some step ≡ step_below end (steps tick)
        → Some (violation step tick) ≡ some_below end (missing_at steps end met tick)
    unfolding missing_at
    step_is_some e f = let b = below_some end (steps tick) f in rw (e, b.0, b.1)

    pub step_is_none : met tick ≡ false → None ≡ step_below end (steps tick) → None ≡ some_below end (missing_at steps end met tick)
    unfolding missing_at
    step_is_none e f = rw (e, below_none end (steps tick) f)

  -- A claimed step beside the one that is there.
  pub same_step : (d s : ℕ) {o : Option ℕ} → o ≡ step_below end d → option_eq eqb o (Some s) ≡ cond (leb end s) false (eqb d s)
  same_step d s {o} e = ap (λ (x : Option ℕ). option_eq eqb x (Some s)) e ∙ go (ltb d end) refl (leb end s) refl
    where
      go : (a : Bool) → ltb d end ≡ a → (b : Bool) → leb end s ≡ b → option_eq eqb (cond a (Some d) None) (Some s) ≡ cond b false (eqb d s)
      go true h true k =
          let l : d < end = ltb-true d end h in
          let m : end ≤ s = leb-true end s k in
          ne_eqb d s (λ z. omega arith)
      go true h false k = refl
      go false h true k = refl
      go false h false k =
          let l : end ≤ d = ltb-false d end h in
          let m : s < end = leb-false end s k in
          sym (ne_eqb d s (λ z. omega arith))

  -- The comparison.
  pub beside_first : (claimed : List Violation) (count : ℕ) (v : Violation) → beside claimed count (some_below end v) ≡ comparison end claimed count v
  unfolding comparison
  beside_first claimed count v = go (ltb v.step end)
    where
      go : (b : Bool) → beside claimed count (cond b (Some v) None) ≡ cond b (beside claimed count (Some v)) (beside claimed count None)
      go true = refl
      go false = refl
