-- The check's way to its answer gives the comparison with the complete report: the first entries of the list that ascend and are violations stand in the report, with
-- nothing but violations that the list lacks between them, and the first of those is where the list differs.
use Prim.Native.Nat.{ℕ, zero, suc, ◌+◌, ◌≤◌, ◌<◌}
use mathlib.Core.Path.{◌≡◌, refl, sym, ap, ap₂, subst, ◌∙◌}
use mathlib.Core.Bool.{Bool, true, false, cond, ◌||◌, false≢true}
use mathlib.Core.List.{List, [], ◌∷◌}
use native.Mathlib.Omega.{arith}
use native.Mathlib.Nat.{add-zero, zero-add}
use lib.Dec.{leb, ltb, eqb}
use lib.ListN.{length, take}
use borrow.Author.Tests.{leb-true, leb-false, lt-leb, ltb-true, ltb-false, lt-ltb, le-ltb, eqb-true, eqb-false, eq-eqb, ne_eqb}
use Rattle.refusal.proofs.Bools.{or_false}
use Rattle.rule.specs.Formula.{Formula}
use Rattle.complete_report.specs.declared.Violation.{Violation}
use Rattle.complete_report.specs.declared.Comparison.{Comparison}
use Rattle.complete_report.specs.declared.Comparison.TheVariants.{Same, Differs, Ends}
use Rattle.complete_report.specs.Report.{violation, complete, compared}
use Rattle.complete_report.specs.Lists.{same, listed}
use Rattle.complete_report.specs.Order.{before, in_order, Ascending}
use Rattle.complete_report.specs.FalseSteps.{false_step, by_tick}
use Rattle.complete_report.proofs.Orders.{less, same_equal, equal_same, not_same, before_false, irreflexive, transitive, asymmetric}
use Rattle.complete_report.proofs.Inserted.{or_true, Upward, upward_before, upward_true, listed_head, listed_above}
use Rattle.complete_report.proofs.ByTick.{false_step_late, complete_by_tick}
use Rattle.complete_report.proofs.SaidReport.{test_equal, listed_of_tick, of_tick_listed, listed_in_order, ascending_in_order}
use Rattle.report_check.specs.Checking.{is_violation, agreed, names, earlier, missing_at, first_missing, place, comparison}

-- ---- violations and tests

-- What is not true is false.
not_so : (b : Bool) → (b ≡ true → ⊥) → b ≡ false
not_so true h = absurd (h refl)
not_so false h = refl

either : (b : Bool) (A : Type 0) → (b ≡ true → A) → (b ≡ false → A) → A
either true A h k = h refl
either false A h k = k refl

-- Marks that agree on the ticks below `count` have the same first violation that they lack.
pub first_missing_same : (steps : ℕ → ℕ) (end : ℕ) (met met' : ℕ → Bool) (count : ℕ) (first : Violation) → ((tick : ℕ) → tick < count → met tick ≡ met' tick)
    → first_missing steps end met count first ≡ first_missing steps end met' count first
unfolding first_missing missing_at
first_missing_same steps end met met' zero first h = refl
first_missing_same steps end met met' (suc count) first h =
    rw (h count (omega arith)) (first_missing_same steps end met met' count (earlier (violation (cond (met' count) end (steps count)) count) first) (λ tick l. h tick (omega arith)))

module _ (steps : ℕ → ℕ) (end : ℕ) where
  pub violation_said : (v : Violation) → is_violation steps end v ≡ true → (steps v.tick ≡ v.step) × (v.step < end)
  unfolding is_violation
  violation_said v = go (leb end v.step) refl
    where
      go : (b : Bool) → leb end v.step ≡ b → cond b false (eqb (steps v.tick) v.step) ≡ true → (steps v.tick ≡ v.step) × (v.step < end)
      go true e h = absurd (false≢true h)
      go false e h = (eqb-true (steps v.tick) v.step h, leb-false end v.step e)

  pub is_a_violation : (v : Violation) → steps v.tick ≡ v.step → v.step < end → is_violation steps end v ≡ true
  unfolding is_violation
  is_a_violation v e l = rw (lt-leb end v.step l, eq-eqb (steps v.tick) v.step e)

  -- Violations of one tick are one violation.
  one_of_tick : (v w : Violation) → is_violation steps end v ≡ true → is_violation steps end w ≡ true → v.tick ≡ w.tick → v ≡ w
  one_of_tick v w h k e =
      let d : v.step ≡ w.step = sym (violation_said v h).0 ∙ ap steps e ∙ (violation_said w k).0 in
      ap₂ violation d e

  -- ---- the first violation that is not met

  -- m is the first of the violations not met that `above` asks for, of ticks from `from` on; its step is `end` or more where there is none.
  record First (above : Violation → Bool) (from : ℕ) (met : ℕ → Bool) (m : Violation) : Type 0 where
    is_missing : m.step < end → (above m ≡ true) × (is_violation steps end m ≡ true) × (met m.tick ≡ false)
    least : (v : Violation) → above v ≡ true → from ≤ v.tick → is_violation steps end v ≡ true → met v.tick ≡ false → before v m ≡ false

  module _ (met : ℕ → Bool) where
    missing_step : (count : ℕ) (v : Violation) → is_violation steps end v ≡ true → met v.tick ≡ false → v.tick ≡ count → missing_at steps end met count ≡ v
    unfolding missing_at
    missing_step count v h k e =
        let n : met count ≡ false = ap met (sym e) ∙ k in
        rw n (ap₂ violation (ap steps (sym e) ∙ (violation_said v h).0) (sym e))

    missing_is : (count : ℕ) → (missing_at steps end met count).step < end
        → (true ≡ true) × (is_violation steps end (missing_at steps end met count) ≡ true) × (met (missing_at steps end met count).tick ≡ false)
    unfolding missing_at
    missing_is count = go (met count) refl
      where
        go : (b : Bool) → met count ≡ b → cond b end (steps count) < end
            → (true ≡ true) × (is_violation steps end (violation (cond b end (steps count)) count) ≡ true) × (met count ≡ false)
        go true e l = absurd (omega arith)
        go false e l = (refl, is_a_violation (violation (steps count) count) refl l, e)

    first_more : (count : ℕ) (first : Violation) → First (λ v. true) (suc count) met first → First (λ v. true) count met (earlier (missing_at steps end met count) first)
    unfolding earlier
    first_more count first f = go (before (missing_at steps end met count) first) refl
      where
        here_or : (v : Violation) (A : Type 0) → count ≤ v.tick → (v.tick ≡ count → A) → (suc count ≤ v.tick → A) → A
        here_or v A l here later =
            either (eqb count v.tick) A
            (λ e. here (sym (eqb-true count v.tick e)))
            (λ e. later (less count v.tick l (eqb-false count v.tick e)))

        go : (b : Bool) → before (missing_at steps end met count) first ≡ b → First (λ v. true) count met (cond b (missing_at steps end met count) first)
        go true e =
            record {
              is_missing = missing_is count;
              least = λ v a l h k.
                  here_or v (before v (missing_at steps end met count) ≡ false) l
                  (λ q. ap (before v) (missing_step count v h k q) ∙ irreflexive v)
                  (λ q. not_so (before v (missing_at steps end met count))
                  (λ x. false≢true (sym (f.least v a q h k) ∙ transitive v (missing_at steps end met count) first x e)));
            }
        go false e =
            record {
              is_missing = f.is_missing;
              least = λ v a l h k.
                  here_or v (before v first ≡ false) l
                  (λ q. ap (λ (x : Violation). before x first) (sym (missing_step count v h k q)) ∙ e)
                  (λ q. f.least v a q h k);
            }

    first_of_all : (count : ℕ) (first : Violation) → First (λ v. true) count met first → First (λ v. true) 0 met (first_missing steps end met count first)
    unfolding first_missing
    first_of_all zero first f = f
    first_of_all (suc count) first f = first_of_all count (earlier (missing_at steps end met count) first) (first_more count first f)

    -- No tick from `end` on is a violation.
    first_none : ((tick : ℕ) → end ≤ tick → end ≤ steps tick) → First (λ v. true) end met (violation end end)
    first_none late =
        record {
          is_missing = λ l. absurd (omega arith);
          least = λ v a l h k. absurd (let s = violation_said v h in let x = late v.tick l in omega (arith, s.0, s.1));
        }

  -- ---- the list beside the report, from an entry on

  -- The report from here on has each violation that `above` asks for.
  abbrev Holds : (Violation → Bool) → List Violation → Type 0
  Holds above report = (v : Violation) → above v ≡ true → listed v report ≡ is_violation steps end v

  -- A comparison that starts at entry k.
  unfoldable from_entry : ℕ → List Violation → ℕ → Violation → Comparison
  from_entry k claimed count missing =
      cond (ltb missing.step end) (Differs (k + place missing (take count claimed)) missing) (cond (ltb count (length claimed)) (Ends (k + count)) Same)

  -- Where the report has ended, no violation is left.
  none_left : (above : Violation → Bool) (met : ℕ → Bool) (m : Violation) → Holds above [] → First above 0 met m → ltb m.step end ≡ false
  unfolding listed
  none_left above met m holds f =
      not_so (ltb m.step end)
      (λ e. let w = f.is_missing (ltb-true m.step end e) in false≢true (holds m w.0 ∙ w.1))

  head_violation : (above : Violation → Bool) (r : Violation) (report : List Violation) → above r ≡ true → Holds above (r ∷ report) → is_violation steps end r ≡ true
  head_violation above r report a holds = sym (holds r a) ∙ listed_head r report

  -- What is a violation and not the report's first entry comes after it.
  after_head : (above : Violation → Bool) (r : Violation) (report : List Violation) → Ascending above (r ∷ report) → Holds above (r ∷ report)
      → (v : Violation) → above v ≡ true → is_violation steps end v ≡ true → same v r ≡ false → before r v ≡ true
  unfolding listed
  after_head above r report a holds v h k n =
      or_true (same v r) (listed v report) (before r v ≡ true) (holds v h ∙ k)
      (λ e. absurd (false≢true (sym n ∙ e)))
      (λ e l. listed_above (before r) (upward_before r) v report a.1 l)

  -- Where the report's first entry is not met, it is the first such violation.
  first_head : (above : Violation → Bool) (r : Violation) (report : List Violation) (met : ℕ → Bool) (m : Violation) → Ascending above (r ∷ report)
      → Holds above (r ∷ report) → met r.tick ≡ false → First above 0 met m → (m ≡ r) × (m.step < end)
  first_head above r report met m a holds n f =
      let h = head_violation above r report a.0 holds in
      let b = f.least r a.0 (omega arith) h n in
      let l : m.step < end = omega (arith, (before_false r m b).0, (violation_said r h).1) in
      let w = f.is_missing l in (
        either (same m r) (m ≡ r) (same_equal m r)
            (λ e. absurd (false≢true (sym b ∙ after_head above r report a holds m w.0 w.1 e))),
        l,
      )

  -- The first entries that ascend and are violations name no tick of a violation that `above` does not hold of.
  agreed_lack : (r : Violation) → is_violation steps end r ≡ true → (above : Violation → Bool) → Upward above → above r ≡ false → (claimed : List Violation)
      → names (take (agreed steps end above claimed) claimed) r.tick ≡ false
  unfolding agreed names
  agreed_lack r h above up n [] = refl
  agreed_lack r h above up n (c ∷ claimed) =
      go (above c) refl (is_violation steps end c) refl (λ k. agreed_lack r h (before c) (upward_before c) k claimed)
    where
      other : above c ≡ true → is_violation steps end c ≡ true → eqb c.tick r.tick ≡ false
      other a k = ne_eqb c.tick r.tick (λ e. false≢true (sym n ∙ ap above (sym (one_of_tick c r k h e)) ∙ a))

      go : (a : Bool) → above c ≡ a → (k : Bool) → is_violation steps end c ≡ k
          → (before c r ≡ false → names (take (agreed steps end (before c) claimed) claimed) r.tick ≡ false)
          → names (take (cond a (cond k (suc (agreed steps end (before c) claimed)) 0) 0) (c ∷ claimed)) r.tick ≡ false
      go true a true k next = rw (other a k) (next (not_so (before c r) (λ b. false≢true (sym n ∙ up c r a b))))
      go true a false k next = refl
      go false a k l next = refl

  -- An entry that stands in both.
  first_tail : (above : Violation → Bool) (c : Violation) (report : List Violation) (met : ℕ → Bool) (m : Violation) → Upward above → Ascending above (c ∷ report)
      → Holds above (c ∷ report) → First above 0 (λ tick. eqb c.tick tick || met tick) m → First (before c) 0 met m
  first_tail above c report met m up a holds f =
      record {
        is_missing = λ l.
            let w = f.is_missing l in
            let n = or_false (eqb c.tick m.tick) (met m.tick) w.2 in
            (after_head above c report a holds m w.0 w.1 (not_same m c (λ e d. eqb-false c.tick m.tick n.0 (sym e))), w.1, n.1);
        least = λ v b l h k.
            f.least v (up c v a.0 b) l h (rw (ne_eqb c.tick v.tick (λ e. other v b h e)) k);
      }
    where
      other : (v : Violation) → before c v ≡ true → is_violation steps end v ≡ true → c.tick ≡ v.tick → ⊥
      other v b h e =
          false≢true
          (sym (irreflexive v)
          ∙ ap (λ (x : Violation). before x v) (sym (one_of_tick c v (head_violation above c report a.0 holds) h e))
          ∙ b)

  holds_tail : (above : Violation → Bool) (c : Violation) (report : List Violation) → Upward above → Ascending above (c ∷ report) → Holds above (c ∷ report) → Holds (before c) report
  unfolding listed
  holds_tail above c report up a holds v b =
      sym (ap (λ (x : Bool). x || listed v report) (not_same v c (λ e d. other e d))) ∙ holds v (up c v a.0 b)
    where
      other : v.tick ≡ c.tick → v.step ≡ c.step → ⊥
      other e d = false≢true (sym (irreflexive v) ∙ ap (λ (x : Violation). before x v) (ap₂ violation d e) ∙ b)

  ltb_suc : (m n : ℕ) → ltb (suc m) (suc n) ≡ ltb m n
  ltb_suc m n =
      either (ltb m n) (ltb (suc m) (suc n) ≡ ltb m n)
      (λ e. lt-ltb (suc m) (suc n) (let l = ltb-true m n e in omega arith) ∙ sym e)
      (λ e. le-ltb (suc m) (suc n) (let l = ltb-false m n e in omega arith) ∙ sym e)

  -- One entry further.
  next_entry : (k : ℕ) (c : Violation) (claimed : List Violation) (count : ℕ) (m : Violation) → (m.step < end → before c m ≡ true)
      → from_entry (suc k) claimed count m ≡ from_entry k (c ∷ claimed) (suc count) m
  unfolding from_entry place
  next_entry k c claimed count m h = go (ltb m.step end) refl
    where
      go : (b : Bool) → ltb m.step end ≡ b
          → cond b (Differs (suc k + place m (take count claimed)) m) (cond (ltb count (length claimed)) (Ends (suc k + count)) Same)
          ≡ cond b (Differs (k + cond (before c m) (suc (place m (take count claimed))) 0) m) (cond (ltb (suc count) (suc (length claimed))) (Ends (k + suc count)) Same)
      go true e = rw (h (ltb-true m.step end e)) (ap (λ (i : ℕ). Differs i m) (omega arith))
      go false e = rw (ltb_suc count (length claimed)) (ap (λ (i : ℕ). cond (ltb count (length claimed)) (Ends i) Same) (omega arith))

  -- The first violation not met is the report's first entry, and none of the first entries comes before it.
  differs_here : (k : ℕ) (above : Violation → Bool) (claimed : List Violation) (count : ℕ) (r : Violation) (report : List Violation) (m : Violation)
      → Ascending above (r ∷ report) → Holds above (r ∷ report) → names (take count claimed) r.tick ≡ false → place r (take count claimed) ≡ 0
      → First above 0 (names (take count claimed)) m → Differs k r ≡ from_entry k claimed count m
  unfolding from_entry
  differs_here k above claimed count r report m a holds n z f =
      let w = first_head above r report (names (take count claimed)) m a holds n f in
      rw (lt-ltb m.step end w.1, w.0, z, add-zero)

  -- ---- entries side by side

  module _ (k : ℕ) (above : Violation → Bool) (up : Upward above) (c : Violation) (claimed report : List Violation) (m : Violation) where
    agreed_here : above c ≡ true → is_violation steps end c ≡ true → agreed steps end above (c ∷ claimed) ≡ suc (agreed steps end (before c) claimed)
    unfolding agreed
    agreed_here a h = rw (a, h)

    -- The entries are the same.
    same_entry : Ascending above (c ∷ report) → Holds above (c ∷ report) → First above 0 (names (take (agreed steps end above (c ∷ claimed)) (c ∷ claimed))) m
        → (Ascending (before c) report → Holds (before c) report → First (before c) 0 (names (take (agreed steps end (before c) claimed) claimed)) m
        → compared (suc k) claimed report ≡ from_entry (suc k) claimed (agreed steps end (before c) claimed) m)
        → compared (suc k) claimed report ≡ from_entry k (c ∷ claimed) (agreed steps end above (c ∷ claimed)) m
    unfolding names
    same_entry a holds f next =
        let n = agreed_here a.0 (head_violation above c report a.0 holds) in
        let g : First above 0 (names (take (suc (agreed steps end (before c) claimed)) (c ∷ claimed))) m = subst (λ (i : ℕ). First above 0 (names (take i (c ∷ claimed))) m) n f in
        let t = first_tail above c report (names (take (agreed steps end (before c) claimed) claimed)) m up a holds g in
        next a.1 (holds_tail above c report up a holds) t
        ∙ next_entry k c claimed (agreed steps end (before c) claimed) m (λ l. (t.is_missing l).0)
        ∙ ap (λ (i : ℕ). from_entry k (c ∷ claimed) i m) (sym n)

    module _ (r : Violation) (a : Ascending above (r ∷ report)) (holds : Holds above (r ∷ report)) (n : same c r ≡ false) where
      later_entry : above c ≡ true → is_violation steps end c ≡ true → before r c ≡ true
      later_entry h v = after_head above r report a holds c h v n

      not_named : names (take (agreed steps end above (c ∷ claimed)) (c ∷ claimed)) r.tick ≡ false
      unfolding agreed names
      not_named = go (above c) refl (is_violation steps end c) refl
        where
          rv : is_violation steps end r ≡ true
          rv = head_violation above r report a.0 holds

          go : (b : Bool) → above c ≡ b → (v : Bool) → is_violation steps end c ≡ v
              → names (take (cond b (cond v (suc (agreed steps end (before c) claimed)) 0) 0) (c ∷ claimed)) r.tick ≡ false
          go true e true h =
              rw (ne_eqb c.tick r.tick (λ q. false≢true (sym n ∙ equal_same c r (one_of_tick c r h rv q))))
              (agreed_lack r rv (before c) (upward_before c) (asymmetric r c (later_entry e h)) claimed)
          go true e false h = refl
          go false e v h = refl

      first_place : place r (take (agreed steps end above (c ∷ claimed)) (c ∷ claimed)) ≡ 0
      unfolding agreed place
      first_place = go (above c) refl (is_violation steps end c) refl
        where
          go : (b : Bool) → above c ≡ b → (v : Bool) → is_violation steps end c ≡ v
              → place r (take (cond b (cond v (suc (agreed steps end (before c) claimed)) 0) 0) (c ∷ claimed)) ≡ 0
          go true e true h = rw (asymmetric r c (later_entry e h))
          go true e false h = refl
          go false e v h = refl

    -- The report has ended.
    past_report : Holds above [] → First above 0 (names (take (agreed steps end above (c ∷ claimed)) (c ∷ claimed))) m
        → Ends k ≡ from_entry k (c ∷ claimed) (agreed steps end above (c ∷ claimed)) m
    unfolding agreed from_entry listed
    past_report holds f =
        let z = none_left above (names (take (agreed steps end above (c ∷ claimed)) (c ∷ claimed))) m holds f in
        go (above c) refl (is_violation steps end c) refl z
      where
        go : (b : Bool) → above c ≡ b → (v : Bool) → is_violation steps end c ≡ v → ltb m.step end ≡ false
            → Ends k ≡ from_entry k (c ∷ claimed) (cond b (cond v (suc (agreed steps end (before c) claimed)) 0) 0) m
        go true e true h z = absurd (false≢true (holds c e ∙ h))
        go true e false h z = rw (z, lt-ltb 0 (suc (length claimed)) (omega arith), add-zero)
        go false e v h z = rw (z, lt-ltb 0 (suc (length claimed)) (omega arith), add-zero)

  law : (k : ℕ) (above : Violation → Bool) (claimed report : List Violation) → Upward above → Ascending above report → Holds above report → (m : Violation)
      → First above 0 (names (take (agreed steps end above claimed) claimed)) m → compared k claimed report ≡ from_entry k claimed (agreed steps end above claimed) m
  unfolding compared agreed from_entry names place
  law k above [] [] up a holds m f = rw (none_left above (names []) m holds f)
  law k above [] (r ∷ report) up a holds m f = differs_here k above [] 0 r report m a holds refl refl f
  law k above (c ∷ claimed) [] up a holds m f = past_report k above up c claimed [] m holds f
  law k above (c ∷ claimed) (r ∷ report) up a holds m f =
      either (same c r) (compared k (c ∷ claimed) (r ∷ report) ≡ from_entry k (c ∷ claimed) (agreed steps end above (c ∷ claimed)) m)
      (λ e.
      let q : r ≡ c = sym (same_equal c r e) in
      let a' : Ascending above (c ∷ report) = subst (λ (x : Violation). Ascending above (x ∷ report)) q a in
      let h' : Holds above (c ∷ report) = subst (λ (x : Violation). Holds above (x ∷ report)) q holds in
      rw e (same_entry k above up c claimed report m a' h' f (λ i j g. law (suc k) (before c) claimed report (upward_before c) i j m g)))
      (λ e.
      rw e
      (differs_here k above (c ∷ claimed) (agreed steps end above (c ∷ claimed)) r report m a holds (not_named k above up c claimed report m r a holds e)
      (first_place k above up c claimed report m r a holds e) f))

  -- ---- the law

  module _ (late : (tick : ℕ) → end ≤ tick → end ≤ steps tick) where
    ordered_holds : Holds (λ v. true) (in_order (by_tick steps end end 0))
    ordered_holds v t =
        listed_in_order v (by_tick steps end end 0)
        ∙ test_equal (listed v (by_tick steps end end 0)) (is_violation steps end v)
        (λ l. let w = listed_of_tick steps end end 0 v l in is_a_violation v w.2 w.3)
        (λ h. let w = violation_said v h in of_tick_listed steps end end 0 v (omega arith, inside w, w.0, w.1))
      where
        inside : (steps v.tick ≡ v.step) × (v.step < end) → v.tick < 0 + end
        inside w =
            either (leb end v.tick) (v.tick < 0 + end)
            (λ e. absurd (omega (arith, late v.tick (leb-true end v.tick e), w.0, w.1)))
            (λ e. omega (arith, leb-false end v.tick e))

    pub check_law : (claimed : List Violation)
        → compared 0 claimed (in_order (by_tick steps end end 0))
        ≡ comparison end claimed (agreed steps end (λ v. true) claimed)
        (first_missing steps end (names (take (agreed steps end (λ v. true) claimed) claimed)) end (violation end end))
    unfolding comparison from_entry
    check_law claimed =
        let met = names (take (agreed steps end (λ v. true) claimed) claimed) in
        let m = first_missing steps end met end (violation end end) in
        law 0 (λ v. true) claimed (in_order (by_tick steps end end 0)) upward_true (ascending_in_order steps end end 0) ordered_holds m
        (first_of_all met end (violation end end) (first_none met late))
        ∙ ap₂ (λ (i j : ℕ). cond (ltb m.step end) (Differs i m) (cond (ltb (agreed steps end (λ v. true) claimed) (length claimed)) (Ends j) Same))
        (zero-add (place m (take (agreed steps end (λ v. true) claimed) claimed))) (zero-add (agreed steps end (λ v. true) claimed))

-- The list beside the complete report of a recording.
pub check_report : (F : Formula) (rec : List ℕ) → length rec ≤ 65535 → (claimed : List Violation)
    → compared 0 claimed (complete F rec)
    ≡ comparison (length rec) claimed (agreed (false_step F rec) (length rec) (λ v. true) claimed)
    (first_missing (false_step F rec) (length rec) (names (take (agreed (false_step F rec) (length rec) (λ v. true) claimed) claimed)) (length rec)
    (violation (length rec) (length rec)))
check_report F rec h claimed =
    ap (compared 0 claimed) (complete_by_tick F rec h) ∙ check_law (false_step F rec) (length rec) (false_step_late F rec) claimed
