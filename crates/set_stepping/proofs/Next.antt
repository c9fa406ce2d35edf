-- After a step the records are still those of running rules: the next step of the set is admitted too, while tick numbers last.
use Prim.Native.Nat.{ℕ, suc, ◌+◌, ◌*◌, ◌≤◌, ◌<◌}
use mathlib.Core.Path.{◌≡◌, sym, ap, subst, ◌∙◌}
use mathlib.Core.Bool.{true}
use mathlib.Core.List.{List, map}
use native.Mathlib.Nat.{zero-add}
use native.Mathlib.Omega.{arith}
use lib.ListN.{length, get_or, take, drop, length-map, length-append, length-drop, get_or-map, get_or-append}
use lib.Seq.{take_at, get_or-take, ext_get_or}
use borrow.Author.Tests.{le-leb, lt-leb, eq-eqb, ne_eqb}
use Rattle.refusal.specs.Answer.{accepted}
use Rattle.sheet.specs.Sheet.{rule_count}
use Rattle.rule.specs.declared.Figures.{Figures}
use Rattle.demand.specs.declared.Running.{Running}
use Rattle.demand.specs.Contract.{Invariant, must}
use Rattle.demand.specs.SetContract.{SetTaken, SetStep, no_rule, next_rule, running_rules, opened_length, next_tick, all_cells, all_delays, needs, all_run, fit_set, admit_records, SetTakes}
use Rattle.demand.proofs.SetAdmission.{SetAdmitted, Placed, AllPlaced, all_run_there, rules_count, rule_placed}
use Rattle.demand.proofs.SetAlong.{placed_next}

-- What is known of admitted records admits them, with any report of at least so many words.
pub admits : (sheet : List ℕ) (records : List Running) (history cells report : ℕ) (figures : List Figures) → SetAdmitted sheet records history cells report figures
    → (words : ℕ) → 2 * all_delays figures ≤ words → admit_records sheet records history cells words ≡ accepted figures
unfolding admit_records fit_set must
admits sheet records history cells report figures known words enough =
    let n = rule_count sheet in
    let L = opened_length records in
    let run : all_run sheet L (next_tick records) 0 (running_rules sheet records) ≡ true =
    all_run_there sheet L (next_tick records) 0 (running_rules sheet records) known.all_placed (omega (arith, ap all_cells known.figures_are, known.cells_low)) in
    simp (
      le-leb 1 n known.least,
      le-leb n 32 known.most,
      le-leb L 4096 known.opened_high,
      run,
      known.figures_are,
      ne_eqb (length records) 0 (λ e. omega (arith, known.records_fit, known.least)),
      eq-eqb history L known.history_fits,
      le-leb (4 * all_cells figures) cells known.cells_fit,
      le-leb n (length records) known.records_fit,
      le-leb (2 * all_delays figures) words enough,
      lt-leb 4611686018427387904 (next_tick records) known.tick_left,
    )

module _ (Stands : Invariant) (made : SetStep) (figures : List Figures) (taken : SetTaken) (history cells report : ℕ)
    (known : SetAdmitted made.sheet made.records history cells report figures) (w : SetTakes Stands made figures taken) where
  abbrev sheet : List ℕ
  sheet = made.sheet

  abbrev n : ℕ
  n = rule_count sheet

  abbrev rule : ℕ → Running
  rule i = get_or made.records i no_rule

  pub running_is : running_rules sheet made.records' ≡ taken.running
  running_is = ap (take n) w.records_are ∙ take_at taken.running (drop n made.records) n w.as_many

  pub records_long : length made.records' ≡ length made.records
  records_long =
      omega (
        arith,
        ap length w.records_are,
        length-append taken.running (drop n made.records),
        length-drop n made.records,
        w.as_many,
        known.records_fit,
      )

  rule_after : (i : ℕ) → i < n → get_or made.records' i no_rule ≡ next_rule (rule i) (get_or taken.running i no_rule).live
  rule_after i h =
      ap (λ (l : List Running). get_or l i no_rule) w.records_are
      ∙ get_or-append taken.running (drop n made.records) no_rule i (omega (arith, w.as_many))
      ∙ w.moved i h

  pub next-is : next_tick made.records' ≡ suc (next_tick made.records)
  next-is = ap (λ (r : Running). r.next) (rule_after 0 (omega (arith, known.least)))

  opened_same : opened_length made.records' ≡ opened_length made.records
  opened_same = ap (λ (r : Running). r.opened) (rule_after 0 (omega (arith, known.least)))

  abbrev rules' : List Running
  rules' = running_rules sheet made.records'

  rules_long : length rules' ≡ n
  rules_long = ap length running_is ∙ w.as_many

  rule_at : (i : ℕ) → i < n → get_or rules' i no_rule ≡ next_rule (rule i) (get_or taken.running i no_rule).live
  rule_at i h = get_or-take n made.records' i no_rule h ∙ rule_after i h

  figures_same : map (needs sheet) rules' ≡ figures
  figures_same =
      ext_get_or (needs sheet no_rule) (map (needs sheet) rules') (map (needs sheet) (running_rules sheet made.records))
      (length-map rules' (needs sheet) ∙ rules_long ∙ sym (rules_count known) ∙ sym (length-map (running_rules sheet made.records) (needs sheet)))
      (λ i h.
      let below : i < n = omega (arith, length-map rules' (needs sheet), rules_long) in
      get_or-map (needs sheet) rules' i no_rule
      ∙ ap (needs sheet) (rule_at i below)
      ∙ ap (needs sheet) (sym (get_or-take n made.records i no_rule below))
      ∙ sym (get_or-map (needs sheet) (running_rules sheet made.records) i no_rule))
      ∙ known.figures_are

  all_placed : AllPlaced sheet (opened_length made.records) (suc (next_tick made.records)) 0 rules'
  all_placed i h =
      let below : i < n = omega (arith, rules_long) in
      let first : all_cells (take i figures) ≡ 0 + all_cells (take i (map (needs sheet) rules')) =
      sym (zero-add (all_cells (take i (map (needs sheet) rules'))) ∙ ap (λ (l : List Figures). all_cells (take i l)) figures_same) in
      let live = (get_or taken.running i no_rule).live in
      subst (λ (r : Running). Placed sheet (opened_length made.records) (suc (next_tick made.records)) (0 + all_cells (take i (map (needs sheet) rules'))) r) (sym (rule_at i below))
      (subst (λ (x : ℕ). Placed sheet (opened_length made.records) (suc (next_tick made.records)) x (next_rule (rule i) live)) first
      (placed_next live (rule_placed known i below)))

  -- So it is admitted whatever report of at least so many words the next step is lent.
  pub next_known : suc (next_tick made.records) < 4611686018427387904 → (words : ℕ) → 2 * all_delays figures ≤ words → SetAdmitted sheet made.records' history cells words figures
  next_known left words enough =
      record {
        least = known.least;
        most = known.most;
        opened_high = omega (arith, opened_same, known.opened_high);
        figures_are = figures_same;
        all_placed =
            subst (λ (L : ℕ). AllPlaced sheet L (next_tick made.records') 0 rules') (sym opened_same)
            (subst (λ (t : ℕ). AllPlaced sheet (opened_length made.records) t 0 rules') (sym next-is) all_placed);
        cells_low = known.cells_low;
        history_fits = known.history_fits ∙ sym opened_same;
        cells_fit = known.cells_fit;
        records_fit = omega (arith, records_long, known.records_fit);
        report_fits = enough;
        tick_left = omega (arith, next-is);
      }
