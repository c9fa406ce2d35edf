-- The records of a set as its opening and its steps leave them: a step or batch that is lent them is judged by its lengths alone, by 17 to 20.
use Prim.Native.Nat.{ℕ, zero, suc, ◌+◌, ◌*◌, ◌≤◌, ◌<◌}
use mathlib.Core.Path.{◌≡◌, refl, sym, ap, subst, ◌∙◌}
use mathlib.Core.Logic.{◌⊎◌, inl, inr}
use mathlib.Core.Bool.{Bool, true, false, not, ◌&&◌, ◌||◌}
use mathlib.Core.List.{List, [], ◌∷◌, ◌++◌, map}
use native.Mathlib.Nat.{zero-add, not-suc-le-zero}
use native.Mathlib.Omega.{arith}
use lib.Dec.{leb, eqb}
use lib.ListN.{length, get_or, take, drop, length-take, length-append, length-map, take-append-drop, get_or-append}
use lib.Seq.{take_all, take-nil, get_or-take, length-take-le}
use borrow.Author.Tests.{leb-true, leb-false, eqb-true, eqb-false, le-leb, lt-leb}
use Rattle.refusal.specs.Answer.{Answer, refused, accepted}
use Rattle.refusal.proofs.Answers.{not_accepted, same_refusal}
use Rattle.sheet.specs.Sheet.{rule_count}
use Rattle.rule.specs.declared.Figures.{Figures}
use Rattle.rule.specs.Formula.{Formula}
use Rattle.rule.specs.Figures.{body_figures}
use Rattle.rule.proofs.Order.{by_order}
use Rattle.demand.specs.declared.Running.{Running}
use Rattle.demand.specs.Contract.{Invariant, must}
use Rattle.demand.specs.SetContract.{SetOpening, SetTaken, SetStep, SetBatch, no_rule, body_at, next_rule, running_rules, opened_length, next_tick, all_cells, all_delays, figures_or_none, needs, all_run, fit_set, admit_records, admit_set_step, SetOpens, SetTakes, SetStepped, SetBatched, opened_rule}
use Rattle.demand.specs.SetDemand.{no_figures, SetRefused, set_ticks_after, SetUnfit, SetRefusal, SetBatchRefusal, SetAcceptable}
use Rattle.demand.proofs.SetLists.{history_inside, cells_prefix}
use Rattle.demand.proofs.SetAdmission.{short_figures, delays_low, Placed, all_run_there}
use Rattle.demand.proofs.SetRules.{SheetTold, sheet_told, opened_rules_length, opened_at, own_figures}

-- ---- the tests of a step

abbrev pub fit_of : List Figures → ℕ → ℕ → SetStep → Answer (List Figures)
fit_of fs L t k = fit_set fs (length fs) L t (length k.history) (length k.cells) (length k.report) (length k.records)

pub record SetFit (fs : List Figures) (L t : ℕ) (k : SetStep) : Type 0 where
  pub history_fits : length k.history ≡ L
  pub cells_fit : 4 * all_cells fs ≤ length k.cells
  pub records_fit : length fs ≤ length k.records
  pub report_fits : 2 * all_delays fs ≤ length k.report
  pub tick_left : t < 4611686018427387904

-- They pass, or one is the first that does not.
abbrev SetFits : List Figures → ℕ → ℕ → SetStep → Type 0
SetFits fs L t k = ((fit_of fs L t k ≡ accepted fs) × SetFit fs L t k) ⊎ ((n : ℕ) × (fit_of fs L t k ≡ refused n) × SetUnfit fs L t k)

set_fits : (fs : List Figures) (L t : ℕ) (k : SetStep) → 1 ≤ length fs → SetFits fs L t k
unfolding fit_set must
set_fits fs L t k some =
    go (eqb (length k.records) 0) (eqb (length k.history) L) (leb (4 * all_cells fs) (length k.cells)) (leb (length fs) (length k.records))
    (leb (2 * all_delays fs) (length k.report)) (leb 4611686018427387904 t) refl refl refl refl refl refl
  where
    go : (z a b r c d : Bool) → eqb (length k.records) 0 ≡ z → eqb (length k.history) L ≡ a → leb (4 * all_cells fs) (length k.cells) ≡ b
        → leb (length fs) (length k.records) ≡ r → leb (2 * all_delays fs) (length k.report) ≡ c → leb 4611686018427387904 t ≡ d → SetFits fs L t k
    go true a b true c d y i j q l m =
        let none : length k.records ≡ 0 = eqb-true (length k.records) 0 y in
        let there = leb-true (length fs) (length k.records) q in
        absurd (omega arith)
    go true a true false c d y i j q l m = inr (18, simp (y, j, q), inr (inr (inl (leb-false (length fs) (length k.records) q))))
    go true a false false c d y i j q l m = inr (18, simp (y, j, q), inr (inl (leb-false (4 * all_cells fs) (length k.cells) j)))
    go false true true true true false y i j q l m =
        inl (
          simp (y, i, j, q, l, m),
          record {
            history_fits = eqb-true (length k.history) L i;
            cells_fit = leb-true (4 * all_cells fs) (length k.cells) j;
            records_fit = leb-true (length fs) (length k.records) q;
            report_fits = leb-true (2 * all_delays fs) (length k.report) l;
            tick_left = leb-false 4611686018427387904 t m;
          },
        )
    go false true true true true true y i j q l m = inr (20, simp (y, i, j, q, l, m), inr (inr (inr (inr (omega (arith, leb-true 4611686018427387904 t m))))))
    go false true true true false d y i j q l m = inr (19, simp (y, i, j, q, l), inr (inr (inr (inl (leb-false (2 * all_delays fs) (length k.report) l)))))
    go false true true false c d y i j q l m = inr (18, simp (y, i, j, q), inr (inr (inl (leb-false (length fs) (length k.records) q))))
    go false true false r c d y i j q l m = inr (18, simp (y, i, j), inr (inl (leb-false (4 * all_cells fs) (length k.cells) j)))
    go false false b r c d y i j q l m = inr (17, simp (y, i), inl (eqb-false (length k.history) L i))

fit_not_unfit : (fs : List Figures) (L t : ℕ) (k : SetStep) → SetFit fs L t k → SetUnfit fs L t k → ⊥
fit_not_unfit fs L t k f (inl h) = h f.history_fits
fit_not_unfit fs L t k f (inr (inl h)) = omega (arith, f.cells_fit)
fit_not_unfit fs L t k f (inr (inr (inl h))) = omega (arith, f.records_fit)
fit_not_unfit fs L t k f (inr (inr (inr (inl h)))) = omega (arith, f.report_fits)
fit_not_unfit fs L t k f (inr (inr (inr (inr h)))) = omega (arith, f.tick_left)

-- With fewer records than rules nothing but 17 and 18 comes, whichever figures are asked for.
fit_few : (fs : List Figures) (n L t H C W R : ℕ) → R < n → fit_set fs n L t H C W R ≡ must (eqb R 0 || eqb H L) 17 (refused 18)
unfolding fit_set must
fit_few fs n L t H C W R h = simp (lt-leb n R h, off (leb (4 * all_cells fs) C))
  where
    off : (b : Bool) → (b && false) ≡ false
    off true = refl
    off false = refl

fit_none : (L L' H : ℕ) → must {A = List Figures} (eqb 0 0 || eqb H L) 17 (refused 18) ≡ must (eqb 0 0 || eqb H L') 17 (refused 18)
unfolding must
fit_none L L' H = refl

-- ---- records and figures

-- The figures of running rules, as far as they are those of a list.
same_front : (sheet : List ℕ) (rules : List Running) (fs : List Figures) (i : ℕ) → i ≤ length rules → i ≤ length fs
    → ((j : ℕ) → j < i → needs sheet (get_or rules j no_rule) ≡ get_or fs j no_figures) → take i (map (needs sheet) rules) ≡ take i fs
same_front sheet rules fs zero h k e = refl
same_front sheet [] fs (suc i) h k e = absurd (not-suc-le-zero h)
same_front sheet (r ∷ rules) [] (suc i) h k e = absurd (not-suc-le-zero k)
same_front sheet (r ∷ rules) (f ∷ fs) (suc i) h k e =
    let q : needs sheet r ≡ f = e 0 (omega arith) in
    rw q (ap (λ (l : List Figures). f ∷ l) (same_front sheet rules fs i (omega arith) (omega arith) (λ j x. e (suc j) (omega arith))))

pub placed_next : {sheet : List ℕ} {L t first : ℕ} {rule : Running} (live : ℕ) → Placed sheet L t first rule → Placed sheet L (suc t) first (next_rule rule live)
placed_next live p =
    record {
      inside = p.inside;
      first-is = p.first-is;
      opened_is = p.opened_is;
      next-is = ap suc p.next-is;
      opens = p.opens;
      cells_are = p.cells_are;
      delay_is = p.delay_is;
      history_fits = p.history_fits;
    }

module _ (Stands : Invariant) (o : SetOpening) (Fs : List Formula) (fs : List Figures) (c : SetAcceptable o Fs fs) where
  abbrev L : ℕ
  L = length o.history

  pub told : SheetTold o.sheet c.bodies
  told = sheet_told o.sheet c.bodies c.bodies_are

  pub counted : length fs ≡ rule_count o.sheet
  counted = c.as_many_figures ∙ told.as_many

  pub some : 1 ≤ length fs
  some = omega (arith, told.contents.least, counted)

  -- The first records are those of the opened rules, and t ticks were taken.
  pub record Along (records : List Running) (t : ℕ) : Type 0 where
    pub enough : length fs ≤ length records
    pub placed : (i : ℕ) → i < length fs → Placed o.sheet L t (all_cells (take i fs)) (get_or records i no_rule)
    pub bytes : (i : ℕ) → i < length fs → body_at o.sheet (get_or records i no_rule) ≡ get_or c.bodies i []

  pub needs_at : {records : List Running} {t : ℕ} → Along records t → (i : ℕ) → i < length fs → needs o.sheet (get_or records i no_rule) ≡ get_or fs i no_figures
  needs_at h i b =
      ap (λ (l : List ℕ). figures_or_none (body_figures l)) (h.bytes i b)
      ∙ ap figures_or_none (own_figures o Fs fs c i (omega (arith, c.as_many_figures)))

  -- ---- what is lent is judged by its lengths

  module _ {records : List Running} {t : ℕ} (h : Along records t) (m : ℕ) (H C W : ℕ) where
    abbrev lent : List Running
    lent = take m records

    abbrev rules : List Running
    rules = running_rules o.sheet lent

    rules_most : length rules ≤ rule_count o.sheet
    rules_most = omega (arith, length-take (rule_count o.sheet) lent)

    rules_lent : length rules ≤ m
    rules_lent = omega (arith, length-take (rule_count o.sheet) lent, length-take m records)

    rule_at : (i : ℕ) → i < length rules → get_or rules i no_rule ≡ get_or records i no_rule
    rule_at i b = get_or-take (rule_count o.sheet) lent i no_rule (omega (arith, rules_most)) ∙ get_or-take m records i no_rule (omega (arith, rules_lent))

    front : (i : ℕ) → i ≤ length rules → take i (map (needs o.sheet) rules) ≡ take i fs
    front i b =
        same_front o.sheet rules fs i b (omega (arith, rules_most, counted)) (λ j x.
        ap (needs o.sheet) (rule_at j (omega arith)) ∙ needs_at h j (omega (arith, rules_most, counted)))

    all_front : map (needs o.sheet) rules ≡ take (length rules) fs
    all_front =
        sym (take_all (length rules) (map (needs o.sheet) rules) (omega (arith, length-map rules (needs o.sheet)))) ∙ front (length rules) (omega arith)

    all_there : all_run o.sheet L t 0 rules ≡ true
    all_there =
        all_run_there o.sheet L t 0 rules
        (λ i b.
        let q : all_cells (take i fs) ≡ 0 + all_cells (take i (map (needs o.sheet) rules)) =
        ap all_cells (sym (front i (omega arith))) ∙ sym (zero-add (all_cells (take i (map (needs o.sheet) rules)))) in
        subst (λ (x : ℕ). Placed o.sheet L t x (get_or rules i no_rule)) q
        (subst (λ (r : Running). Placed o.sheet L t (all_cells (take i fs)) r) (sym (rule_at i b)) (h.placed i (omega (arith, rules_most, counted)))))
        (omega (arith, ap all_cells all_front, cells_prefix fs (length rules), c.cells_low))

    -- Where all records are lent, their figures are those of the opening.
    enough_lent : length fs ≤ length lent → map (needs o.sheet) rules ≡ fs
    enough_lent b =
        let q : length rules ≡ length fs = length-take-le (rule_count o.sheet) lent (omega (arith, counted)) ∙ sym counted in
        all_front ∙ ap (λ (j : ℕ). take j fs) q ∙ take_all (length fs) fs (omega arith)

    abbrev Judged : Type 0
    Judged = admit_records o.sheet lent H C W ≡ fit_set fs (length fs) L t H C W (length lent)

    with_some : 1 ≤ length lent → Judged
    unfolding admit_records must
    with_some b =
        let one : 1 ≤ m = omega (arith, length-take m records) in
        let first : get_or lent 0 no_rule ≡ get_or records 0 no_rule = get_or-take m records 0 no_rule one in
        let p = h.placed 0 some in
        let opened : opened_length lent ≡ L = ap (λ (r : Running). r.opened) first ∙ p.opened_is in
        let next : next_tick lent ≡ t = ap (λ (r : Running). r.next) first ∙ p.next-is in
        rw (opened, next)
        (simp (
          le-leb 1 (rule_count o.sheet) told.contents.least,
          le-leb (rule_count o.sheet) 32 told.contents.most,
          le-leb L 4096 c.history_high,
          all_there,
        )
        (go (by_order (length fs) (length lent))))
      where
        go : (length fs ≤ length lent) ⊎ (length lent < length fs)
            → fit_set (map (needs o.sheet) rules) (rule_count o.sheet) L t H C W (length lent) ≡ fit_set fs (length fs) L t H C W (length lent)
        go (inl x) = rw (enough_lent x, counted) refl
        go (inr x) =
            fit_few (map (needs o.sheet) rules) (rule_count o.sheet) L t H C W (length lent) (omega (arith, counted))
            ∙ sym (fit_few fs (length fs) L t H C W (length lent) x)

    with_none : lent ≡ [] → Judged
    unfolding admit_records must all_run
    with_none e =
        rw (e, take-nil {A = Running} (rule_count o.sheet))
        (simp (
          le-leb 1 (rule_count o.sheet) told.contents.least,
          le-leb (rule_count o.sheet) 32 told.contents.most,
        )
        (fit_few [] (rule_count o.sheet) 0 0 H C W 0 (omega (arith, told.contents.least)) ∙ fit_none 0 L H ∙ sym (fit_few fs (length fs) L t H C W 0 some)))

    judged : Judged
    judged = go lent refl
      where
        go : (l : List Running) → lent ≡ l → Judged
        go [] e = with_none e
        go (r ∷ l) e = with_some (omega (arith, ap length e))

  -- ---- one step

  -- It is lent the sheet and the first m records.
  pub record Lent (records : List Running) (m : ℕ) (k : SetStep) : Type 0 where
    pub sheet_is : k.sheet ≡ o.sheet
    pub records_are : k.records ≡ take m records

  pub admit_is : {records : List Running} {t : ℕ} (m : ℕ) (k : SetStep) → Along records t → Lent records m k → admit_set_step k ≡ fit_of fs L t k
  admit_is m k h lends =
      rw (lends.sheet_is, lends.records_are) (judged h m (length k.history) (length k.cells) (length k.report))

  pub record Took (k : SetStep) (t : ℕ) (x : SetTaken) : Type 0 where
    pub takes : SetTakes Stands k fs x
    pub fit : SetFit fs L t k

  pub took : {records : List Running} {t : ℕ} (m : ℕ) (k : SetStep) (x : SetTaken) → Along records t → Lent records m k → SetStepped Stands k (accepted x) → Took k t x
  took {records} {t} m k x h lends (g, e, w) = go (set_fits fs L t k some)
    where
      go : SetFits fs L t k → Took k t x
      go (inl (i, f)) =
          let j : g ≡ fs = cc (admit_is m k h lends) in
          record { takes = subst (λ y. SetTakes Stands k y x) j w; fit = f }
      go (inr (n, i, u)) = absurd (not_accepted (sym i ∙ sym (admit_is m k h lends) ∙ e))

  pub refusal : {records : List Running} {t : ℕ} (m : ℕ) (k : SetStep) → Along records t → Lent records m k → (a : Answer SetTaken) → k.answer ≡ a → SetStepped Stands k a
      → SetRefusal fs L t k
  refusal {records} {t} m k h lends (refused n) e w =
      record {
        exactly = (λ r. go (set_fits fs L t k some), λ u. subst SetRefused (sym e) tt);
        number = λ y i. let j : n ≡ y = cc in sym (admit_is m k h lends) ∙ w.0 ∙ ap refused j;
        unchanged = λ r. w.1;
      }
    where
      go : SetFits fs L t k → SetUnfit fs L t k
      go (inl (i, f)) = absurd (not_accepted (sym w.0 ∙ admit_is m k h lends ∙ i))
      go (inr (y, i, u)) = u
  refusal {records} {t} m k h lends (accepted x) e w =
      record {
        exactly = (λ r. absurd (subst SetRefused e r), λ u. absurd (fit_not_unfit fs L t k (took m k x h lends w).fit u));
        number = λ n i. absurd (not_accepted (sym i ∙ e));
        unchanged = λ r. absurd (subst SetRefused e r);
      }

  -- The record of rule i after a step that took its tick.
  module _ {records : List Running} {t : ℕ} (m : ℕ) (k : SetStep) (x : SetTaken) (h : Along records t) (lends : Lent records m k) (v : Took k t x) where
    lent_more : length fs ≤ m
    lent_more = omega (arith, v.fit.records_fit, ap length lends.records_are, length-take m records)

    running_count : length x.running ≡ length fs
    running_count = v.takes.as_many ∙ ap rule_count lends.sheet_is ∙ sym counted

    module _ (i : ℕ) (below : i < length fs) where
      pub lent_at : get_or k.records i no_rule ≡ get_or records i no_rule
      lent_at = ap (λ (l : List Running). get_or l i no_rule) lends.records_are ∙ get_or-take m records i no_rule (omega (arith, lent_more))

      pub in_count : i < rule_count k.sheet
      in_count = omega (arith, counted, ap rule_count lends.sheet_is)

      pub moved_at : get_or x.running i no_rule ≡ next_rule (get_or records i no_rule) (get_or x.running i no_rule).live
      moved_at = v.takes.moved i in_count ∙ ap (λ (r : Running). next_rule r (get_or x.running i no_rule).live) lent_at

      pub after_at : get_or (k.records' ++ drop m records) i no_rule ≡ get_or x.running i no_rule
      after_at =
          let rest = drop (rule_count k.sheet) k.records in
          get_or-append k.records' (drop m records) no_rule i
          (omega (arith, ap length v.takes.records_are, length-append x.running rest, running_count))
          ∙ ap (λ (l : List Running). get_or l i no_rule) v.takes.records_are
          ∙ get_or-append x.running rest no_rule i (omega (arith, running_count))

      abbrev live_after : ℕ
      live_after = (get_or x.running i no_rule).live

      after_is : get_or (k.records' ++ drop m records) i no_rule ≡ next_rule (get_or records i no_rule) live_after
      after_is = after_at ∙ moved_at

    pub along_after : Along (k.records' ++ drop m records) (suc t)
    along_after =
        record {
          enough =
              let rest = drop (rule_count k.sheet) k.records in
              omega (
                arith,
                length-append k.records' (drop m records),
                ap length v.takes.records_are,
                length-append x.running rest,
                running_count,
              );
          placed = λ i b. subst (Placed o.sheet L (suc t) (all_cells (take i fs))) (sym (after_is i b)) (placed_next (live_after i b) (h.placed i b));
          bytes = λ i b. ap (body_at o.sheet) (after_is i b) ∙ h.bytes i b;
        }

  pub same_records : {records : List Running} (m : ℕ) (k : SetStep) → Lent records m k → k.records' ≡ k.records → k.records' ++ drop m records ≡ records
  same_records {records} m k lends e = rw (e, lends.records_are) (take-append-drop m records)

  pub next_along : {records : List Running} {t : ℕ} (m : ℕ) (k : SetStep) → Along records t → Lent records m k → (a : Answer SetTaken) → SetStepped Stands k a
      → Along (k.records' ++ drop m records) (set_ticks_after t a)
  next_along {records} {t} m k h lends (refused n) w = subst (λ (l : List Running). Along l t) (sym (same_records m k lends w.1.0)) h
  next_along m k h lends (accepted x) w = along_after m k x h lends (took m k x h lends w)

  -- ---- a refused batch: 17, 18 or 20, since 8,192 words are enough for every set

  few_words : 2 * all_delays fs ≤ 8192
  few_words =
      let low = delays_low fs (λ i b. short_figures (get_or c.bodies i []) (get_or fs i no_figures) (own_figures o Fs fs c i (omega (arith, c.as_many_figures)))) in
      omega (arith, low, c.cells_low)

  batch_number : (t H C R n : ℕ) → fit_set fs (length fs) L t H C 8192 R ≡ refused n → (n ≡ 17) ⊎ ((n ≡ 18) ⊎ (n ≡ 20))
  unfolding fit_set must
  batch_number t H C R n e =
      go (eqb R 0 || eqb H L) (leb (4 * all_cells fs) C && leb (length fs) R) (leb (2 * all_delays fs) 8192) (leb 4611686018427387904 t) (le-leb (2 * all_delays fs) 8192 few_words) e
    where
      go : (a b w d : Bool) → w ≡ true → must {A = List Figures} a 17 (must b 18 (must w 19 (must (not d) 20 (accepted fs)))) ≡ refused n
          → (n ≡ 17) ⊎ ((n ≡ 18) ⊎ (n ≡ 20))
      go false b w d i x = inl (sym (same_refusal x))
      go true false w d i x = inr (inl (sym (same_refusal x)))
      go true true true true i x = inr (inr (sym (same_refusal x)))
      go true true true false i x = absurd (not_accepted (sym x))
      go true true false d i x = let z : ◌≡◌ {A = ℕ} 0 1 = cc in absurd (omega arith)

  pub batch_refusal : {records : List Running} {t : ℕ} (m : ℕ) (b : SetBatch) → Along records t → b.sheet ≡ o.sheet → b.records ≡ take m records
      → (n : ℕ) → b.answer ≡ refused n → SetBatched Stands b (refused n) → SetBatchRefusal fs L t b
  batch_refusal {records} {t} m b h sheet_is records_are n e w =
      let H = length b.history in
      let C = length b.cells in
      let j : admit_records b.sheet b.records H C 8192 ≡ fit_set fs (length fs) L t H C 8192 (length b.records) = rw (sheet_is, records_are) (judged h m H C 8192) in
      let x : fit_set fs (length fs) L t H C 8192 (length b.records) ≡ refused n = sym j ∙ w.0 in
      record { number = n; answered = e; number_is = x; one_of = batch_number t H C (length b.records) n x; unchanged = w.1 }

  -- ---- the opening

  module _ (given : List Running) (w : SetOpens Stands o given fs) where
    pub given_count : length given ≡ length fs
    given_count = ap length w.rules ∙ opened_rules_length o.sheet L 0 0 fs

    module _ (i : ℕ) (below : i < length fs) where
      abbrev opened : Running
      opened = opened_rule o.sheet L i (all_cells (take i fs)) (get_or fs i no_figures)

      pub given_at : get_or given i no_rule ≡ opened
      given_at =
          ap (λ (l : List Running). get_or l i no_rule) w.rules
          ∙ opened_at o.sheet L 0 0 fs i below
          ∙ rw (zero-add i, zero-add (all_cells (take i fs))) refl

      pub left_at : get_or o.records' i no_rule ≡ get_or given i no_rule
      left_at =
          ap (λ (l : List Running). get_or l i no_rule) w.records_are
          ∙ get_or-append given (drop (length given) o.records) no_rule i (omega (arith, given_count))

      in_bodies : i < length c.bodies
      in_bodies = omega (arith, c.as_many_figures)

      opened_bytes : body_at o.sheet opened ≡ get_or c.bodies i []
      opened_bytes = sym (told.bytes i in_bodies)

      opened_opens : body_figures (body_at o.sheet opened) ≡ accepted (get_or fs i no_figures)
      opened_opens = ap body_figures opened_bytes ∙ own_figures o Fs fs c i in_bodies

      opened_needs : needs o.sheet opened ≡ get_or fs i no_figures
      opened_needs = ap figures_or_none opened_opens

      opened_placed : Placed o.sheet L 0 (all_cells (take i fs)) opened
      opened_placed =
          record {
            inside = (told.inside i in_bodies).ends;
            first-is = refl;
            opened_is = refl;
            next-is = refl;
            opens = opened_opens ∙ ap accepted (sym opened_needs);
            cells_are = ap (λ (f : Figures). f.cells) opened_needs;
            delay_is = ap (λ (f : Figures). f.delay) opened_needs;
            history_fits = omega (arith, ap (λ (f : Figures). f.history) opened_needs, history_inside fs i below, c.history_low);
          }

    pub fresh : Along o.records' 0
    fresh =
        record {
          enough = omega (arith, ap length w.records_are, length-append given (drop (length given) o.records), given_count);
          placed = λ i b. subst (Placed o.sheet L 0 (all_cells (take i fs))) (sym (left_at i b ∙ given_at i b)) (opened_placed i b);
          bytes = λ i b. ap (body_at o.sheet) (left_at i b ∙ given_at i b) ∙ opened_bytes i b;
        }
