-- The rules of an admitted set take their tick one after another: what each turn asks and gives (the invariant is demand's, proofs/SetLoop.antt).
use Prim.Native.Nat.{ℕ, suc, ◌+◌, ◌*◌, ◌-◌, ◌%◌, ◌≤◌, ◌<◌}
use mathlib.Core.Path.{◌≡◌, sym, ap, subst, ◌∙◌}
use mathlib.Core.List.{List, ◌++◌}
use native.Mathlib.Omega.{arith}
use lib.ListN.{length, get_or, take, drop, set}
use lib.Seq.{drop-drop}
use Rattle.refusal.specs.Answer.{accepted}
use Rattle.sheet.specs.Sheet.{rule_count}
use Rattle.rule.specs.declared.Figures.{Figures}
use Rattle.demand.specs.declared.Running.{Running}
use Rattle.demand.specs.Contract.{admit_lengths}
use Rattle.demand.specs.SetContract.{no_rule, body_at, rule_state, own_cells, next_rule, opened_length, next_tick, numbered, needs, admit_records, Ticked, SetTakes, set_step_of, all_delays}
use Rattle.demand.proofs.Admission.{formula_of, step_admits}
use Rattle.demand.proofs.SetAdmission.{SetAdmitted, Placed, set_step_admitted, rule_placed, few_delays}
use Rattle.demand.proofs.SetLoop.{Upto, upto_none, upto_record, turn_fits, turn_pairs, turn_live, turn_room, upto_next, upto_all}
use Rattle.cell_runs.specs.Moves.{Stands}
use Rattle.rule.specs.Figures.{body_figures}
use Rattle.set_stepping.specs.Answers.{set_taken}
use Rattle.set_stepping.specs.Moves.{RuleFit, RuleMoved, NextFit, SetMoved, stored_byte}

-- A step of one rule with its own figures is admitted.
own_admits : (bytes : List ℕ) (L t history cells report : ℕ) (figures : Figures) → L ≤ 4096 → t < 4611686018427387904 → body_figures bytes ≡ accepted figures → figures.history ≤ L
    → history ≡ L → 4 * figures.cells ≤ cells → figures.delay + 1 ≤ report → admit_lengths bytes L t history cells report ≡ accepted figures
own_admits bytes L t history cells report figures high timely opens low same room words =
    let x = formula_of bytes figures opens in
    step_admits bytes L t history cells report figures
    (record {
      formula = x.0;
      reads = x.1;
      within = x.2;
      opened_high = high;
      opened_low = low;
      history_fits = same;
      cells_fit = room;
      report_fits = words;
      tick_left = timely;
    })

module _ (sheet : List ℕ) (records₀ : List Running) (history : List ℕ) (flag : ℕ) (cells₀ report₀ : List ℕ) where
  abbrev pub SoFar : ℕ → List Running → List ℕ → List ℕ → ℕ → ℕ → Type 0
  SoFar index records cells report pairs live =
      (figures : List Figures) → admit_records sheet records₀ (length history) (length cells₀) (length report₀) ≡ accepted figures
      → Upto Stands sheet figures flag history cells₀ report₀ records₀ index cells report records pairs live

  pub none_so_far : SoFar 0 records₀ cells₀ report₀ 0 0
  none_so_far figures admitted = upto_none Stands sheet figures flag history cells₀ report₀ records₀

  module _ (figures : List Figures) (admitted : admit_records sheet records₀ (length history) (length cells₀) (length report₀) ≡ accepted figures) where
    known : SetAdmitted sheet records₀ (length history) (length cells₀) (length report₀) figures
    known = set_step_admitted sheet records₀ (length history) (length cells₀) (length report₀) figures admitted

    pub few_rules : rule_count sheet ≤ 32
    few_rules = known.most

    pub few_pairs : all_delays figures ≤ 4096
    few_pairs = few_delays known

    pub opened_is : opened_length records₀ ≡ length history
    opened_is = sym known.history_fits

    -- One turn, with the record as it is read.
    module _ (index pairs live : ℕ) (records : List Running) (cells report : List ℕ)
        (u : Upto Stands sheet figures flag history cells₀ report₀ records₀ index cells report records pairs live) (more : index < rule_count sheet)
        (rule : Running) (rule_is : rule ≡ get_or records index no_rule) where
      same_rule : rule ≡ get_or records₀ index no_rule
      same_rule = rule_is ∙ upto_record Stands sheet figures flag history cells₀ report₀ records₀ known u more

      placed : Placed sheet (opened_length records₀) (next_tick records₀) rule.first rule
      placed =
          let p = rule_placed known index more in
          subst (λ (r : Running). Placed sheet (opened_length records₀) (next_tick records₀) r.first r) (sym same_rule)
          (subst (λ (first : ℕ). Placed sheet (opened_length records₀) (next_tick records₀) first (get_or records₀ index no_rule)) (sym p.first-is) p)

      pub report_inside : 2 * pairs ≤ length report
      report_inside = omega (arith, turn_room Stands sheet figures flag history cells₀ report₀ records₀ known u more)

      pub pairs_few : pairs ≤ 4096
      pairs_few = omega (arith, turn_pairs Stands sheet figures flag history cells₀ report₀ records₀ known u more, few_pairs)

      pub live_few : live ≤ 4096
      live_few = omega (arith, turn_live Stands sheet figures flag history cells₀ report₀ records₀ known u more, few_pairs)

      delay_few : rule.delay + 1 ≤ 4096
      delay_few =
          let e : rule.delay ≡ (get_or records₀ index no_rule).delay = ap (λ (r : Running). r.delay) same_rule in
          omega (arith, e, turn_pairs Stands sheet figures flag history cells₀ report₀ records₀ known u more, few_pairs)

      pub rule_fits : (words : ℕ) → words ≡ length report - 2 * pairs → RuleFit sheet rule (length history) (length cells) words
      rule_fits words size =
          let p = placed in
          let e : rule.delay ≡ (get_or records₀ index no_rule).delay = ap (λ (r : Running). r.delay) same_rule in
          let a : rule.first ≡ (get_or records₀ index no_rule).first = ap (λ (r : Running). r.first) same_rule in
          let b : rule.cells ≡ (get_or records₀ index no_rule).cells = ap (λ (r : Running). r.cells) same_rule in
          record {
            inside = p.inside;
            cells_are = p.cells_are;
            delay_is = p.delay_is;
            admitted =
                own_admits (body_at sheet rule) rule.opened rule.next (length history) (4 * rule.cells) (rule.delay + 1) (needs sheet rule)
                (omega (arith, p.opened_is, known.opened_high)) (omega (arith, p.next-is, known.tick_left)) p.opens p.history_fits (known.history_fits ∙ sym p.opened_is)
                (omega (arith, p.cells_are)) (omega (arith, p.delay_is));
            cells_fit = omega (arith, a, b, turn_fits Stands sheet figures flag history cells₀ report₀ records₀ known u more);
            report_fits = omega (arith, e, turn_room Stands sheet figures flag history cells₀ report₀ records₀ known u more);
            few = delay_few;
          }

      module _ (part : List ℕ) (part_is : part ≡ drop (2 * pairs) report) (reported live' : ℕ) (cells' part' : List ℕ)
          (moved : RuleMoved sheet rule index history flag cells part reported live' cells' part') where
        pub next_fits : NextFit rule live'
        next_fits = record { timely = omega (arith, placed.next-is, known.tick_left); few = omega (arith, moved.few_live, delay_few) }

        pub sums_few : (reported ≤ 4096) × (live' ≤ 4096)
        sums_few = (omega (arith, moved.few, delay_few), omega (arith, moved.few_live, delay_few))

        pub turned : (records' : List Running) (report' : List ℕ) → records' ≡ set records index (next_rule rule live') → report' ≡ take (2 * pairs) report ++ part'
            → Upto Stands sheet figures flag history cells₀ report₀ records₀ (suc index) cells' report' records' (pairs + reported) (live + live')
        turned records' report' stored pasted =
            let first_rule = get_or records₀ index no_rule in
            let size : length moved.own ≡ 4 * first_rule.cells = moved.own_length ∙ ap (λ (r : Running). 4 * r.cells) same_rule in
            let tick : Ticked Stands (rule_state sheet first_rule) (needs sheet first_rule) flag history (own_cells first_rule cells) moved.own moved.ticks (rule_state sheet (next_rule first_rule live')) =
            subst (λ (r : Running). Ticked Stands (rule_state sheet r) (needs sheet r) flag history (own_cells r cells) moved.own moved.ticks (rule_state sheet (next_rule r live'))) same_rule moved.ticked in
            let next = upto_next Stands sheet figures flag history cells₀ report₀ records₀ known u more moved.own moved.ticks live' size tick in
            let counted : pairs + length moved.ticks ≡ pairs + reported = ap (λ (n : ℕ). pairs + n) (sym moved.count) in
            let cells_are : take (4 * first_rule.first) cells ++ (moved.own ++ drop (4 * first_rule.cells) (drop (4 * first_rule.first) cells)) ≡ cells' =
            ap (λ (r : Running). take (4 * r.first) cells ++ (moved.own ++ drop (4 * r.cells) (drop (4 * r.first) cells))) (sym same_rule) ∙ sym moved.cells_are in
            let rest : drop (2 * reported) part ≡ drop (2 * pairs + 2 * length moved.ticks) report =
            ap (drop (2 * reported)) part_is ∙ drop-drop (2 * reported) (2 * pairs) report ∙ ap (λ (n : ℕ). drop (2 * pairs + 2 * n) report) moved.count in
            let report_is : take (2 * pairs) report ++ (numbered index moved.ticks ++ drop (2 * pairs + 2 * length moved.ticks) report) ≡ report' =
            ap (λ (l : List ℕ). take (2 * pairs) report ++ (numbered index moved.ticks ++ l)) (sym rest) ∙ ap (λ (l : List ℕ). take (2 * pairs) report ++ l) (sym moved.report_is) ∙ sym pasted in
            let records_are : set records index (next_rule first_rule live') ≡ records' =
            ap (λ (r : Running). set records index (next_rule r live')) (sym same_rule) ∙ sym stored in
            subst (λ (n : ℕ). Upto Stands sheet figures flag history cells₀ report₀ records₀ (suc index) cells' report' records' n (live + live')) counted
            (subst (λ (l : List Running). Upto Stands sheet figures flag history cells₀ report₀ records₀ (suc index) cells' report' l (pairs + length moved.ticks) (live + live')) records_are
            (subst (λ (l : List ℕ). Upto Stands sheet figures flag history cells₀ report₀ records₀ (suc index) cells' l (set records index (next_rule first_rule live')) (pairs + length moved.ticks) (live + live')) report_is
            (subst (λ (l : List ℕ). Upto Stands sheet figures flag history cells₀ report₀ records₀ (suc index) l
            (take (2 * pairs) report ++ (numbered index moved.ticks ++ drop (2 * pairs + 2 * length moved.ticks) report)) (set records index (next_rule first_rule live')) (pairs + length moved.ticks) (live + live')) cells_are next)))

  pub next_so_far : (index pairs live : ℕ) (records : List Running) (cells report : List ℕ) → SoFar index records cells report pairs live → index < rule_count sheet
      → (rule : Running) → rule ≡ get_or records index no_rule → (part : List ℕ) → part ≡ drop (2 * pairs) report → (reported live' : ℕ) (cells' part' : List ℕ)
      → RuleMoved sheet rule index history flag cells part reported live' cells' part' → (records' : List Running) (report' : List ℕ)
      → records' ≡ set records index (next_rule rule live') → report' ≡ take (2 * pairs) report ++ part'
      → SoFar (suc index) records' cells' report' (pairs + reported) (live + live')
  next_so_far index pairs live records cells report so more rule rule_is part part_is reported live' cells' part' moved records' report' stored pasted figures admitted =
      turned figures admitted index pairs live records cells report (so figures admitted) more rule rule_is part part_is reported live' cells' part' moved records' report' stored pasted

  -- All rules have taken it.
  pub all_taken : (index : ℕ) (records : List Running) (cells report : List ℕ) (pairs live : ℕ) → index ≡ rule_count sheet → SoFar index records cells report pairs live
      → (figures : List Figures) → admit_records sheet records₀ (length history) (length cells₀) (length report₀) ≡ accepted figures
      → SetTakes Stands
      (set_step_of (accepted (set_taken pairs live sheet records)) sheet records₀ flag history cells₀ report₀ records (stored_byte records₀ history flag) cells report) figures
      (set_taken pairs live sheet records)
  all_taken index records cells report pairs live e u figures admitted =
      upto_all Stands sheet figures flag history cells₀ report₀ records₀ (known figures admitted) (accepted (set_taken pairs live sheet records))
      (subst (λ (n : ℕ). Upto Stands sheet figures flag history cells₀ report₀ records₀ n cells report records pairs live) e (u figures admitted))

  -- And the byte is stored at the tick that stands in the first record.
  pub history_stored : (lead : Running) → lead ≡ get_or records₀ 0 no_rule → (pairs live : ℕ) (records : List Running) (cells report history' : List ℕ)
      → history' ≡ set history (lead.next % length history) flag
      → SetMoved sheet records₀ history flag cells₀ report₀ pairs live records (stored_byte records₀ history flag) cells report
      → SetMoved sheet records₀ history flag cells₀ report₀ pairs live records history' cells report
  history_stored lead lead_is pairs live records cells report history' stored moved figures admitted =
      let e : stored_byte records₀ history flag ≡ history' =
      ap (λ (n : ℕ). set history (next_tick records₀ % n) flag) (opened_is figures admitted) ∙ ap (λ (r : Running). set history (r.next % length history) flag) (sym lead_is) ∙ sym stored in
      subst (λ (l : List ℕ). SetTakes Stands (set_step_of (accepted (set_taken pairs live sheet records)) sheet records₀ flag history cells₀ report₀ records l cells report) figures (set_taken pairs live sheet records)) e
      (moved figures admitted)
