-- What it says of an opening and of a step of a set that they are admitted.
use Prim.Native.Nat.{ℕ, zero, suc, ◌+◌, ◌*◌, ◌≤◌, ◌<◌}
use mathlib.Core.Path.{◌≡◌, refl, sym, ap, subst, ◌∙◌}
use mathlib.Core.Bool.{Bool, true, not, ◌&&◌, ◌||◌, false≢true}
use mathlib.Core.List.{List, [], ◌∷◌, map}
use native.Mathlib.Nat.{add-zero, zero-add, not-suc-le-zero, le_of_suc-le-suc, le-mul_of_pos_right}
use native.Mathlib.Omega.{arith}
use lib.Dec.{leb, eqb}
use lib.ListN.{length, get_or, take, length-map}
use lib.Seq.{length-take-le, get_or-take}
use borrow.Author.Tests.{leb-true, leb-false, eqb-true, not-true, le-leb, eq-eqb, ne_eqb}
use Rattle.refusal.specs.Answer.{Answer, refused, accepted}
use Rattle.refusal.proofs.Answers.{same_value}
use Rattle.refusal.proofs.Bools.{and_true}
use Rattle.sheet.specs.Sheet.{rule_count}
use Rattle.rule.specs.declared.Figures.{Figures}
use Rattle.rule.specs.Figures.{body_figures}
use Rattle.rule.proofs.Limits.{within_limits}
use Rattle.demand.specs.declared.Running.{Running}
use Rattle.demand.specs.SetContract.{no_rule, body_at, running_rules, opened_length, next_tick, all_cells, all_delays, figures_or_none, needs, same_figures, runs, all_run, fit_set, admit_records}
use Rattle.demand.specs.SetDemand.{no_figures}
use Rattle.demand.proofs.Admission.{must_passed, formula_of}
use Rattle.demand.proofs.SetLists.{cells_inside, cells_apart}

-- ---- figures

-- A rule has as many cells as report words, at least.
pub short_figures : (b : List ℕ) (f : Figures) → body_figures b ≡ accepted f → f.delay + 1 ≤ f.cells
short_figures b f e =
    let x = formula_of b f e in
    let l = within_limits x.0 f x.2 in
    omega (arith, l.needed_is, le-mul_of_pos_right {m = 1 + l.own} (f.delay + 1) (omega arith))

pub delays_low : (fs : List Figures) → ((i : ℕ) → i < length fs → (get_or fs i no_figures).delay + 1 ≤ (get_or fs i no_figures).cells) → all_delays fs ≤ all_cells fs
delays_low [] each = omega arith
delays_low (f ∷ fs) each = omega (arith, each 0 (omega arith), delays_low fs (λ i h. each (suc i) (omega arith)))

-- ---- running rules

-- A record that lies in the sheet, with the figures of its body, its first cell at `first`.
pub record Placed (sheet : List ℕ) (L t first : ℕ) (rule : Running) : Type 0 where
  pub inside : rule.start + rule.size ≤ length sheet
  pub first-is : rule.first ≡ first
  pub opened_is : rule.opened ≡ L
  pub next-is : rule.next ≡ t
  pub opens : body_figures (body_at sheet rule) ≡ accepted (needs sheet rule)
  pub cells_are : (needs sheet rule).cells ≡ rule.cells
  pub delay_is : (needs sheet rule).delay ≡ rule.delay
  pub history_fits : (needs sheet rule).history ≤ rule.opened

record Same (rule : Running) (x : Answer Figures) : Type 0 where
  same_opens : x ≡ accepted (figures_or_none x)
  same_cells : (figures_or_none x).cells ≡ rule.cells
  same_delay : (figures_or_none x).delay ≡ rule.delay
  same_history : (figures_or_none x).history ≤ rule.opened

same_told : (rule : Running) (x : Answer Figures) → same_figures rule x ≡ true → Same rule x
same_told rule (refused n) e = absurd (false≢true e)
same_told rule (accepted f) e =
    let a = and_true (eqb f.cells rule.cells) _ e in
    let b = and_true (eqb f.delay rule.delay) _ a.1 in
    record {
      same_opens = refl;
      same_cells = eqb-true f.cells rule.cells a.0;
      same_delay = eqb-true f.delay rule.delay b.0;
      same_history = leb-true f.history rule.opened b.1;
    }

pub runs_told : (sheet : List ℕ) (L t first : ℕ) (rule : Running) → runs sheet L t first rule ≡ true → Placed sheet L t first rule
unfolding runs
runs_told sheet L t first rule e =
    let a = and_true (leb (rule.start + rule.size) (length sheet)) _ e in
    let b = and_true (eqb rule.first first) _ a.1 in
    let c = and_true (eqb rule.opened L) _ b.1 in
    let d = and_true (eqb rule.next t) _ c.1 in
    let s = same_told rule (body_figures (body_at sheet rule)) d.1 in
    record {
      inside = leb-true (rule.start + rule.size) (length sheet) a.0;
      first-is = eqb-true rule.first first b.0;
      opened_is = eqb-true rule.opened L c.0;
      next-is = eqb-true rule.next t d.0;
      opens = s.same_opens;
      cells_are = s.same_cells;
      delay_is = s.same_delay;
      history_fits = s.same_history;
    }

pub runs_there : (sheet : List ℕ) (L t first : ℕ) (rule : Running) → Placed sheet L t first rule → runs sheet L t first rule ≡ true
unfolding runs
runs_there sheet L t first rule p =
    simp (
      le-leb (rule.start + rule.size) (length sheet) p.inside,
      eq-eqb rule.first first p.first-is,
      eq-eqb rule.opened L p.opened_is,
      eq-eqb rule.next t p.next-is,
      ap (same_figures rule) p.opens,
      eq-eqb (needs sheet rule).cells rule.cells p.cells_are,
      eq-eqb (needs sheet rule).delay rule.delay p.delay_is,
      le-leb (needs sheet rule).history rule.opened p.history_fits,
    )

-- All of them, side by side.
abbrev pub AllPlaced : List ℕ → ℕ → ℕ → ℕ → List Running → Type 0
AllPlaced sheet L t first rules =
    (i : ℕ) → i < length rules → Placed sheet L t (first + all_cells (take i (map (needs sheet) rules))) (get_or rules i no_rule)

all_run_told : (sheet : List ℕ) (L t first : ℕ) (rules : List Running) → all_run sheet L t first rules ≡ true
    → AllPlaced sheet L t first rules × (first + all_cells (map (needs sheet) rules) ≤ 4096)
unfolding all_run
all_run_told sheet L t first [] e = (λ i h. absurd (not-suc-le-zero h), let h = leb-true first 4096 e in omega arith)
all_run_told sheet L t first (rule ∷ rules) e =
    let a = and_true (runs sheet L t first rule) _ e in
    let p = runs_told sheet L t first rule a.0 in
    let r = all_run_told sheet L t (first + rule.cells) rules a.1 in
    (go p r.0, omega (arith, p.cells_are, r.1))
  where
    go : Placed sheet L t first rule → AllPlaced sheet L t (first + rule.cells) rules → AllPlaced sheet L t first (rule ∷ rules)
    go p r zero h = rw (add-zero first) p
    go p r (suc i) h =
        let rest = all_cells (take i (map (needs sheet) rules)) in
        let q : (first + rule.cells) + rest ≡ first + ((needs sheet rule).cells + rest) = omega (arith, p.cells_are) in
        subst (λ (x : ℕ). Placed sheet L t x (get_or rules i no_rule)) q (r i (le_of_suc-le-suc h))

pub all_run_there : (sheet : List ℕ) (L t first : ℕ) (rules : List Running) → AllPlaced sheet L t first rules
    → first + all_cells (map (needs sheet) rules) ≤ 4096 → all_run sheet L t first rules ≡ true
unfolding all_run
all_run_there sheet L t first [] each low = le-leb first 4096 (omega arith)
all_run_there sheet L t first (rule ∷ rules) each low =
    let p : Placed sheet L t first rule = subst (λ (x : ℕ). Placed sheet L t x rule) (add-zero first) (each 0 (omega arith)) in
    simp (runs_there sheet L t first rule p, all_run_there sheet L t (first + rule.cells) rules (rest p) (omega (arith, p.cells_are)))
  where
    rest : Placed sheet L t first rule → AllPlaced sheet L t (first + rule.cells) rules
    rest p i h =
        let sum = all_cells (take i (map (needs sheet) rules)) in
        let q : first + ((needs sheet rule).cells + sum) ≡ (first + rule.cells) + sum = omega (arith, p.cells_are) in
        subst (λ (x : ℕ). Placed sheet L t x (get_or rules i no_rule)) q (each (suc i) (omega arith))

-- ---- an admitted step

pub record SetAdmitted (sheet : List ℕ) (records : List Running) (history cells report : ℕ) (figures : List Figures) : Type 0 where
  pub least : 1 ≤ rule_count sheet
  pub most : rule_count sheet ≤ 32
  pub opened_high : opened_length records ≤ 4096
  pub figures_are : map (needs sheet) (running_rules sheet records) ≡ figures
  pub all_placed : AllPlaced sheet (opened_length records) (next_tick records) 0 (running_rules sheet records)
  pub cells_low : all_cells figures ≤ 4096
  pub history_fits : history ≡ opened_length records
  pub cells_fit : 4 * all_cells figures ≤ cells
  pub records_fit : rule_count sheet ≤ length records
  pub report_fits : 2 * all_delays figures ≤ report
  pub tick_left : next_tick records < 4611686018427387904

judged : (records : ℕ) (b : Bool) → 1 ≤ records → (eqb records 0 || b) ≡ true → b ≡ true
judged records b h e = simp (ne_eqb records 0 (λ q. omega arith)) at e

pub set_step_admitted : (sheet : List ℕ) (records : List Running) (history cells report : ℕ) (figures : List Figures)
    → admit_records sheet records history cells report ≡ accepted figures → SetAdmitted sheet records history cells report figures
unfolding admit_records fit_set
set_step_admitted sheet records history cells report figures e =
    let n = rule_count sheet in
    let L = opened_length records in
    let t = next_tick records in
    let rules = running_rules sheet records in
    let own = map (needs sheet) rules in
    let a₀ = must_passed (leb 1 n && leb n 32) 21 _ e in
    let a₁ = must_passed (leb L 4096) 21 _ a₀.1 in
    let a₂ = must_passed (all_run sheet L t 0 rules) 21 _ a₁.1 in
    let a₃ = must_passed (eqb (length records) 0 || eqb history L) 17 _ a₂.1 in
    let a₄ = must_passed (leb (4 * all_cells own) cells && leb n (length records)) 18 _ a₃.1 in
    let a₅ = must_passed (leb (2 * all_delays own) report) 19 _ a₄.1 in
    let a₆ = must_passed (not (leb 4611686018427387904 t)) 20 _ a₅.1 in
    let counted = and_true (leb 1 n) (leb n 32) a₀.0 in
    let least : 1 ≤ n = leb-true 1 n counted.0 in
    let there = and_true (leb (4 * all_cells own) cells) (leb n (length records)) a₄.0 in
    let enough : n ≤ length records = leb-true n (length records) there.1 in
    let placed = all_run_told sheet L t 0 rules a₂.0 in
    subst (SetAdmitted sheet records history cells report) (same_value a₆.1)
    (record {
      least = least;
      most = leb-true n 32 counted.1;
      opened_high = leb-true L 4096 a₁.0;
      figures_are = refl;
      all_placed = placed.0;
      cells_low = omega (arith, placed.1);
      history_fits = eqb-true history L (judged (length records) (eqb history L) (omega arith) a₃.0);
      cells_fit = leb-true (4 * all_cells own) cells there.0;
      records_fit = enough;
      report_fits = leb-true (2 * all_delays own) report a₅.0;
      tick_left = leb-false 4611686018427387904 t (not-true (leb 4611686018427387904 t) a₆.0);
    })

-- What it says of each rule.
module _ {sheet : List ℕ} {records : List Running} {history cells report : ℕ} {figures : List Figures}
    (known : SetAdmitted sheet records history cells report figures) where
  abbrev rule : ℕ → Running
  rule i = get_or records i no_rule

  pub rules_count : length (running_rules sheet records) ≡ rule_count sheet
  rules_count = length-take-le (rule_count sheet) records known.records_fit

  pub figures_count : length figures ≡ rule_count sheet
  figures_count = ap length (sym known.figures_are) ∙ length-map (running_rules sheet records) (needs sheet) ∙ rules_count

  module _ (i : ℕ) (below : i < rule_count sheet) where
    pub rule_placed : Placed sheet (opened_length records) (next_tick records) (all_cells (take i figures)) (rule i)
    rule_placed =
        let p = known.all_placed i (omega (arith, rules_count)) in
        subst (λ (r : Running). Placed sheet (opened_length records) (next_tick records) (all_cells (take i figures)) r) (get_or-take (rule_count sheet) records i no_rule below)
        (subst (λ (x : ℕ). Placed sheet (opened_length records) (next_tick records) x (get_or (running_rules sheet records) i no_rule))
        (zero-add (all_cells (take i (map (needs sheet) (running_rules sheet records)))) ∙ ap (λ (l : List Figures). all_cells (take i l)) known.figures_are) p)

    pub figure_at : get_or figures i no_figures ≡ needs sheet (rule i)
    figure_at =
        let rules = running_rules sheet records in
        ap (λ (l : List Figures). get_or l i no_figures) (sym known.figures_are)
        ∙ getD_mapped rules i (omega (arith, rules_count))
        ∙ ap (needs sheet) (get_or-take (rule_count sheet) records i no_rule below)
      where
        getD_mapped : (rules : List Running) (j : ℕ) → j < length rules → get_or (map (needs sheet) rules) j no_figures ≡ needs sheet (get_or rules j no_rule)
        getD_mapped [] j h = absurd (not-suc-le-zero h)
        getD_mapped (r ∷ rules) zero h = refl
        getD_mapped (r ∷ rules) (suc j) h = getD_mapped rules j (le_of_suc-le-suc h)

    cells_at : (get_or figures i no_figures).cells ≡ (rule i).cells
    cells_at = ap (λ (f : Figures). f.cells) figure_at ∙ rule_placed.cells_are

    -- Its cells are among those of all.
    pub own_inside : 4 * (rule i).first + 4 * (rule i).cells ≤ 4 * all_cells figures
    own_inside = omega (arith, rule_placed.first-is, cells_at, cells_inside figures i (omega (arith, figures_count)))

  -- So the report words of a step are 8,192 at most.
  pub few_delays : all_delays figures ≤ 4096
  few_delays =
      let low = delays_low figures (λ i h.
      let below : i < rule_count sheet = omega (arith, figures_count) in
      rw (figure_at i below) (short_figures (body_at sheet (rule i)) (needs sheet (rule i)) (rule_placed i below).opens)) in
      omega (arith, low, known.cells_low)

  -- The cells of a later rule begin where those of an earlier one have ended.
  pub own_apart : (i j : ℕ) → i < j → j < rule_count sheet → 4 * (rule i).first + 4 * (rule i).cells ≤ 4 * (rule j).first
  own_apart i j h k =
      let below : i < rule_count sheet = omega arith in
      omega (arith, (rule_placed i below).first-is, cells_at i below, (rule_placed j k).first-is, cells_apart figures i j h (omega (arith, figures_count)))
