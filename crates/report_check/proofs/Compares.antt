-- From the parts of a comparison to the comparison with the complete report.
use Prim.Native.Nat.{ℕ, suc, ◌≤◌, ◌<◌}
use mathlib.Core.Path.{◌≡◌, refl, sym, ap, ◌∙◌}
use mathlib.Core.Bool.{Bool, true, false, cond, ◌||◌}
use mathlib.Core.List.{List, [], ◌∷◌}
use native.Mathlib.Omega.{arith}
use lib.Dec.{leb}
use lib.ListN.{length, take, replicate, length-replicate}
use borrow.Author.Tests.{leb-true, leb-false}
use Rattle.rule.specs.Formula.{Formula}
use Rattle.complete_report.specs.declared.Violation.{Violation}
use Rattle.complete_report.specs.declared.Comparison.{Comparison}
use Rattle.complete_report.specs.Report.{violation, complete, compared}
use Rattle.complete_report.specs.Order.{before}
use Rattle.complete_report.specs.FalseSteps.{false_step}
use Rattle.complete_report.proofs.ByTick.{false_step_late}
use Rattle.report_check.specs.Checking.{is_violation, agreed, names, first_missing, comparison}
use Rattle.report_check.specs.Marks.{is_marked, all_marked}
use Rattle.report_check.proofs.CheckLaw.{first_missing_same, violation_said, check_report}
use Rattle.report_check.proofs.Marking.{Below, marks_of_list, none_marked}

-- ---- the first entries that agree

module _ (steps : ℕ → ℕ) (end : ℕ) (late : (tick : ℕ) → end ≤ tick → end ≤ steps tick) where
  -- A violation's tick is one of the recording's.
  early : (v : Violation) → is_violation steps end v ≡ true → v.tick < end
  early v e = let h = violation_said steps end v e in go (leb end v.tick) refl h
    where
      go : (b : Bool) → leb end v.tick ≡ b → (steps v.tick ≡ v.step) × (v.step < end) → v.tick < end
      go true l h = absurd (omega (arith, late v.tick (leb-true end v.tick l), h.0, h.1))
      go false l h = leb-false end v.tick l

  -- They are no more than the list has, and so are their ticks.
  pub agreed_first : (above : Violation → Bool) (claimed : List Violation)
      → (agreed steps end above claimed ≤ length claimed) × Below end (take (agreed steps end above claimed) claimed)
  unfolding agreed
  agreed_first above [] = (omega arith, tt)
  agreed_first above (c ∷ claimed) = go (above c) (is_violation steps end c) refl (agreed_first (before c) claimed)
    where
      n : ℕ
      n = agreed steps end (before c) claimed

      go : (a b : Bool) → is_violation steps end c ≡ b → (n ≤ length claimed) × Below end (take n claimed)
          → (cond a (cond b (suc n) 0) 0 ≤ suc (length claimed)) × Below end (take (cond a (cond b (suc n) 0) 0) (c ∷ claimed))
      go true true e h = (omega (arith, h.0), (early c e, h.1))
      go true false e h = (omega arith, tt)
      go false true e h = (omega arith, tt)
      go false false e h = (omega arith, tt)

-- ---- the comparison

module _ (F : Formula) (rec : List ℕ) (claimed : List Violation) (short : length rec ≤ 65535) where
  abbrev pub count : ℕ
  count = agreed (false_step F rec) (length rec) (λ v. true) claimed

  pub count_few : count ≤ length claimed
  count_few = (agreed_first (false_step F rec) (length rec) (false_step_late F rec) (λ v. true) claimed).0

  -- The marks are those of the entries that agree.
  marks_named : (tick : ℕ) → is_marked (all_marked (replicate 1024 0) (take count claimed)) tick ≡ names (take count claimed) tick
  marks_named tick =
      marks_of_list (replicate 1024 0) (take count claimed) (length rec) tick (omega (arith, short, length-replicate {A = ℕ} 1024 0))
      (agreed_first (false_step F rec) (length rec) (false_step_late F rec) (λ v. true) claimed).1
      ∙ ap (λ (b : Bool). names (take count claimed) tick || b) (none_marked 1024 tick) ∙ or_false (names (take count claimed) tick)
    where
      or_false : (b : Bool) → (b || false) ≡ b
      or_false true = refl
      or_false false = refl

  pub compares : (agree : ℕ) (marks : List ℕ) (missing : Violation) (r : Comparison) → agree ≡ count → marks ≡ all_marked (replicate 1024 0) (take agree claimed)
      → missing ≡ first_missing (false_step F rec) (length rec) (is_marked marks) (length rec) (violation (length rec) (length rec))
      → r ≡ comparison (length rec) claimed agree missing → r ≡ compared 0 claimed (complete F rec)
  compares agree marks missing r a m f e =
      e ∙ ap (λ (n : ℕ). comparison (length rec) claimed n missing) a ∙ ap (comparison (length rec) claimed count) (f ∙ named) ∙ sym (check_report F rec short claimed)
    where
      met : (tick : ℕ) → is_marked marks tick ≡ names (take count claimed) tick
      met tick = ap (λ (x : List ℕ). is_marked x tick) (m ∙ ap (λ (n : ℕ). all_marked (replicate 1024 0) (take n claimed)) a) ∙ marks_named tick

      named : first_missing (false_step F rec) (length rec) (is_marked marks) (length rec) (violation (length rec) (length rec))
          ≡ first_missing (false_step F rec) (length rec) (names (take count claimed)) (length rec) (violation (length rec) (length rec))
      named = first_missing_same (false_step F rec) (length rec) (is_marked marks) (names (take count claimed)) (length rec) (violation (length rec) (length rec)) (λ tick l. met tick)
