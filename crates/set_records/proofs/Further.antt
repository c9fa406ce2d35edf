-- What is promised of the first 32 records is promised of all: a sheet has 32 rules at most, and further records keep their content.
use Prim.Native.Nat.{ℕ, zero, suc, ◌*◌, ◌%◌, ◌≤◌, ◌<◌, min}
use mathlib.Core.Path.{◌≡◌, refl, sym, ap, subst, ◌∙◌}
use mathlib.Core.Logic.{◌⊎◌, inl, inr}
use mathlib.Core.Bool.{Bool, true, false, not, ◌&&◌, ◌||◌}
use mathlib.Core.List.{List, [], ◌∷◌, ◌++◌, map, append_assoc}
use native.Mathlib.Nat.{not-suc-le-zero, le_of_suc-le-suc}
use native.Mathlib.Omega.{arith}
use lib.Dec.{leb, eqb}
use lib.ListN.{length, get_or, take, drop, set, length-take, take-append-drop}
use lib.Seq.{take-take, get_or-take}
use borrow.Author.Tests.{leb-true, le-leb, lt-leb, ne_eqb}
use Rattle.std.specs.Prelude.{Result, Ok, Err}
use Rattle.refusal.specs.declared.Refusal.{Refusal}
use Rattle.refusal.specs.Answer.{Answer, refused, accepted, and_then}
use Rattle.refusal.specs.Numbers.{number_of}
use Rattle.refusal.proofs.Answers.{both_accepted}
use Rattle.refusal.proofs.Bools.{and_true}
use Rattle.sheet.specs.Sheet.{rule_count}
use Rattle.rule.specs.declared.Figures.{Figures}
use Rattle.rule.proofs.Order.{by_order}
use Rattle.demand.specs.Contract.{must, Invariant}
use Rattle.demand.specs.declared.Running.{Running}
use Rattle.demand.specs.SetContract.{no_rule, next_rule, rule_state, needs, own_cells, Ticked, running_rules, opened_length, next_tick, all_cells, all_delays, largest, all_run, fit_set, admit_records, set_figures, set_room, admit_set_lengths, set_opening_of, set_step_of, SetTaken, SetOpens, SetTakes, SetOpenPromise, SetStepPromise}
use Rattle.demand.proofs.SetLists.{all_figures_told}
use Rattle.demand.proofs.SetAdmission.{set_step_admitted}
use Rattle.demand.proofs.SetRules.{sheet_told, figures_told}
use Rattle.cell_runs.specs.Moves.{Stands}
use Rattle.set_opening.specs.Opening.{set_open_answer}
use Rattle.instances.specs.declared.stepping.StepCounts.{StepCounts}
use Rattle.set_stepping.specs.Answers.{set_step_answer}
use Rattle.set_values.specs.declared.RuleSet.{RuleSet}
use Rattle.set_values.specs.declared.opening.OpenedSet.{OpenedSet}
use Rattle.set_values.specs.declared.stepping.SteppedSet.{SteppedSet}
use Rattle.set_values.specs.Values.{held_rules, OthersKept}
use Rattle.set_records.specs.Lent.{loaded, saved}
use Rattle.set_records.proofs.Lists.{loaded_held, saved_first, saved_rest}

-- ---- parts of lists

drop_cut : {A : Type 0} (k n : ℕ) (l : List A) → k ≤ n → drop k (take n l) ++ drop n l ≡ drop k l
drop_cut zero n l h = take-append-drop n l
drop_cut (suc k) zero l h = absurd (not-suc-le-zero h)
drop_cut (suc k) (suc n) [] h = refl
drop_cut (suc k) (suc n) (x ∷ l) h = drop_cut k n l (le_of_suc-le-suc h)

leb_cut : (k n m : ℕ) → k ≤ n → leb k (min n m) ≡ leb k m
leb_cut k n m h = go (by_order k m)
  where
    go : (k ≤ m) ⊎ (m < k) → leb k (min n m) ≡ leb k m
    go (inl below) = le-leb k (min n m) (omega arith) ∙ sym (le-leb k m below)
    go (inr above) = lt-leb k (min n m) (omega arith) ∙ sym (lt-leb k m above)

none_cut : (m : ℕ) → eqb (min 32 m) 0 ≡ eqb m 0
none_cut zero = refl
none_cut (suc m) = ne_eqb (min 32 (suc m)) 0 (λ e. omega (arith, e)) ∙ sym (ne_eqb (suc m) 0 (λ e. omega (arith, e)))

-- ---- lists that differ in the first 32 places only

module _ (ys zs : List Running) (same : drop 32 zs ≡ drop 32 ys) where
  all_same : take 32 zs ≡ take 32 ys → zs ≡ ys
  all_same e =
      sym (take-append-drop 32 zs) ∙ ap (λ (l : List Running). l ++ drop 32 zs) e ∙ ap (λ (l : List Running). take 32 ys ++ l) same ∙ take-append-drop 32 ys

  extended : (front : List Running) (k : ℕ) → k ≤ 32 → take 32 zs ≡ front ++ drop k (take 32 ys) → zs ≡ front ++ drop k ys
  extended front k h e =
      sym (take-append-drop 32 zs)
      ∙ ap (λ (l : List Running). l ++ drop 32 zs) e
      ∙ ap (λ (l : List Running). (front ++ drop k (take 32 ys)) ++ l) same
      ∙ append_assoc front (drop k (take 32 ys)) (drop 32 ys)
      ∙ ap (λ (l : List Running). front ++ l) (drop_cut k 32 ys h)

-- ---- an opening

-- A sheet whose rules have figures has 32 rules at most, and as many figures.
few_rules : (sheet : List ℕ) (figures : List Figures) → set_figures sheet ≡ accepted figures → (rule_count sheet ≤ 32) × (length figures ≤ 32)
few_rules sheet figures e =
    let told = figures_told sheet figures e in
    let rules = sheet_told sheet told.bodies told.bodies_are in
    let most : rule_count sheet ≤ 32 = rules.contents.most in
    (most, omega (arith, most, rules.as_many, (all_figures_told told.bodies figures told.figures_are).as_many))

and_then_same : {A B : Type 0} (x : Answer A) (f g : A → Answer B) → ((a : A) → x ≡ accepted a → f a ≡ g a) → and_then x f ≡ and_then x g
unfolding and_then
and_then_same (refused n) f g h = refl
and_then_same (accepted a) f g h = h a refl

room_cut : (history table : ℕ) (ys : List Running) (figures : List Figures) → length figures ≤ 32
    → set_room history table (length (take 32 ys)) figures ≡ set_room history table (length ys) figures
unfolding set_room
room_cut history table ys figures h =
    ap (λ (b : Bool). must (leb (largest figures) history && leb history 4096) 17 (must (leb (4 * all_cells figures) table && b) 18 (accepted figures)))
    (ap (leb (length figures)) (length-take 32 ys) ∙ leb_cut (length figures) 32 (length ys) h)

admit_cut : (sheet : List ℕ) (history table : ℕ) (ys : List Running) → admit_set_lengths sheet history table (length (take 32 ys)) ≡ admit_set_lengths sheet history table (length ys)
admit_cut sheet history table ys =
    and_then_same (set_figures sheet) _ _ (λ figures e. room_cut history table ys figures (few_rules sheet figures e).1)

module _ (Stands : Invariant) (sheet : List ℕ) (ys zs : List Running) (history table history' : List ℕ) (same : drop 32 zs ≡ drop 32 ys) where
  pub opening_refused : (n : ℕ) → SetOpenPromise Stands (set_opening_of (refused n) sheet (take 32 ys) history table (take 32 zs) history')
      → SetOpenPromise Stands (set_opening_of (refused n) sheet ys history table zs history')
  opening_refused n p = (sym (admit_cut sheet (length history) (length table) ys) ∙ p.0, (all_same ys zs same p.1.0, p.1.1))

  opens_all : (given : List Running) (figures : List Figures) → length given ≤ 32
      → SetOpens Stands (set_opening_of (accepted given) sheet (take 32 ys) history table (take 32 zs) history') given figures
      → SetOpens Stands (set_opening_of (accepted given) sheet ys history table zs history') given figures
  opens_all given figures h p = record {
    rules = p.rules;
    records_are = extended ys zs same given (length given) h p.records_are;
    zeroed = p.zeroed;
    table_length = p.table_length;
    table_rest = p.table_rest;
    stands = p.stands;
  }

  pub opening_accepted : SetOpenPromise Stands (set_opening_of (accepted (running_rules sheet (take 32 zs))) sheet (take 32 ys) history table (take 32 zs) history')
      → SetOpenPromise Stands (set_opening_of (accepted (running_rules sheet zs)) sheet ys history table zs history')
  opening_accepted p =
      let n = rule_count sheet in
      let there = both_accepted (set_figures sheet) _ p.0 p.1 in
      let most : n ≤ 32 = (few_rules sheet there.0 there.1).0 in
      let short : length (running_rules sheet (take 32 zs)) ≤ 32 = omega (arith, most, length-take n (take 32 zs)) in (
        p.0,
        sym (admit_cut sheet (length history) (length table) ys) ∙ p.1,
        subst (λ (given : List Running). SetOpens Stands (set_opening_of (accepted given) sheet ys history table zs history') given p.0) (take-take n 32 zs most)
            (opens_all (running_rules sheet (take 32 zs)) p.0 short p.2),
      )

-- ---- a step

module _ (ys : List Running) where
  rule_cut : (i : ℕ) → i < 32 → get_or (take 32 ys) i no_rule ≡ get_or ys i no_rule
  rule_cut i h = get_or-take 32 ys i no_rule h

  opened_cut : opened_length (take 32 ys) ≡ opened_length ys
  opened_cut = ap (λ (rule : Running). rule.opened) (rule_cut 0 (omega arith))

  next_cut : next_tick (take 32 ys) ≡ next_tick ys
  next_cut = ap (λ (rule : Running). rule.next) (rule_cut 0 (omega arith))

  -- All that is looked at of the records, with these counts of them.
  Looked : (sheet : List ℕ) (history cells report : ℕ) → List Running → ℕ → ℕ → Bool → Bool → Answer (List Figures)
  Looked sheet history cells report rules L t none enough =
      must (leb L 4096) 21
      (must (all_run sheet L t 0 rules) 21
      (must (none || eqb history L) 17
      (must (leb (4 * all_cells (map (needs sheet) rules)) cells && enough) 18
      (must (leb (2 * all_delays (map (needs sheet) rules)) report) 19
      (must (not (leb 4611686018427387904 t)) 20 (accepted (map (needs sheet) rules)))))))

  admit_records_cut : (sheet : List ℕ) (history cells report : ℕ) → admit_records sheet (take 32 ys) history cells report ≡ admit_records sheet ys history cells report
  unfolding admit_records fit_set must Looked
  admit_records_cut sheet history cells report = go (leb 1 n && leb n 32) refl
    where
      n : ℕ
      n = rule_count sheet

      go : (b : Bool) → (leb 1 n && leb n 32) ≡ b → must b 21 (Looked sheet history cells report (running_rules sheet (take 32 ys)) (opened_length (take 32 ys)) (next_tick (take 32 ys)) (eqb (length (take 32 ys)) 0) (leb n (length (take 32 ys))))
          ≡ must b 21 (Looked sheet history cells report (running_rules sheet ys) (opened_length ys) (next_tick ys) (eqb (length ys) 0) (leb n (length ys)))
      go false e = refl
      go true e =
          let most : n ≤ 32 = leb-true n 32 (and_true (leb 1 n) (leb n 32) e).1 in
          rw (take-take n 32 ys most, opened_cut, next_cut, length-take 32 ys, none_cut (length ys), leb_cut n 32 (length ys) most)

module _ (Stands : Invariant) (sheet : List ℕ) (ys zs : List Running) (flag : ℕ) (history cells report history' cells' report' : List ℕ) (same : drop 32 zs ≡ drop 32 ys) where
  pub step_refused : (n : ℕ) → SetStepPromise Stands (set_step_of (refused n) sheet (take 32 ys) flag history cells report (take 32 zs) history' cells' report')
      → SetStepPromise Stands (set_step_of (refused n) sheet ys flag history cells report zs history' cells' report')
  step_refused n p = (sym (admit_records_cut ys sheet (length history) (length cells) (length report)) ∙ p.0, (all_same ys zs same p.1.0, p.1.1))

  takes_all : (taken : SetTaken) (figures : List Figures) → rule_count sheet ≤ 32
      → SetTakes Stands (set_step_of (accepted taken) sheet (take 32 ys) flag history cells report (take 32 zs) history' cells' report') figures taken
      → SetTakes Stands (set_step_of (accepted taken) sheet ys flag history cells report zs history' cells' report') figures taken
  takes_all taken figures most p = record {
    as_many = p.as_many;
    records_are = extended ys zs same taken.running (rule_count sheet) most p.records_are;
    live_sum = p.live_sum;
    history_is = p.history_is ∙ ap (λ (t : ℕ). set history (t % opened_length (take 32 ys)) flag) (next_cut ys) ∙ ap (λ (L : ℕ). set history (next_tick ys % L) flag) (opened_cut ys);
    cells_length = p.cells_length;
    cells_rest = p.cells_rest;
    parts = p.parts;
    parts_length = p.parts_length;
    pairs_are = p.pairs_are;
    report_is = p.report_is;
    moved = λ i h. subst (λ (rule : Running). get_or taken.running i no_rule ≡ next_rule rule (get_or taken.running i no_rule).live) (rule_cut ys i (omega (arith, h, most))) (p.moved i h);
    each = λ i h. subst
        (λ (rule : Running). Ticked Stands (rule_state sheet rule) (needs sheet rule) flag history (own_cells rule cells) (own_cells rule cells') (get_or p.parts i []) (rule_state sheet (get_or taken.running i no_rule)))
        (rule_cut ys i (omega (arith, h, most))) (p.each i h);
  }

  pub step_accepted : (pairs live : ℕ)
      → SetStepPromise Stands (set_step_of (accepted (record { pairs = pairs; live_count = live; running = running_rules sheet (take 32 zs) })) sheet (take 32 ys) flag history cells report (take 32 zs) history' cells' report')
      → SetStepPromise Stands (set_step_of (accepted (record { pairs = pairs; live_count = live; running = running_rules sheet zs })) sheet ys flag history cells report zs history' cells' report')
  step_accepted pairs live p =
      let most : rule_count sheet ≤ 32 = (set_step_admitted sheet (take 32 ys) (length history) (length cells) (length report) p.0 p.1).most in (
        p.0,
        sym (admit_records_cut ys sheet (length history) (length cells) (length report)) ∙ p.1,
        subst (λ (running : List Running). SetTakes Stands (set_step_of (accepted (record { pairs = pairs; live_count = live; running = running })) sheet ys flag history cells report zs history' cells' report') p.0 (record { pairs = pairs; live_count = live; running = running })) (take-take (rule_count sheet) 32 zs most)
            (takes_all (record { pairs = pairs; live_count = live; running = running_rules sheet (take 32 zs) }) p.0 most p.2),
      )

-- ---- from the set by value to the lent records

-- What is said of the records that a set holds, which was loaded and is then saved, is said of the first 32 lent ones.
by_value : (P : List Running → List Running → Type 0) (ys zs : List Running) (values : RuleSet) → length values.rules ≡ 32 → zs ≡ saved ys values → OthersKept (loaded ys) values
    → P (held_rules (loaded ys)) (held_rules values) → P (take 32 ys) (take 32 zs) × (drop 32 zs ≡ drop 32 ys)
unfolding loaded
by_value P ys zs values all e kept p =
    let first : held_rules values ≡ take 32 zs = sym (ap (take 32) e ∙ saved_first ys values all kept.0) in (
      subst (λ (l : List Running). P (take 32 ys) l) first (subst (λ (l : List Running). P l (held_rules values)) (loaded_held ys) p),
      ap (drop 32) e ∙ saved_rest ys values all,
    )

-- What the by_value opening promises, in terms of the set, makes what the opening of lent records promises.
pub open_whole : (sheet : List ℕ) (ys : List Running) (history table : List ℕ) (t : OpenedSet) (zs : List Running) (history' : List ℕ)
    → length t.set.rules ≡ 32 → zs ≡ saved ys t.set
    → SetOpenPromise Stands (set_opening_of (set_open_answer t.answer sheet (held_rules t.set)) sheet (held_rules (loaded ys)) history table (held_rules t.set) history')
    × OthersKept (loaded ys) t.set
    → SetOpenPromise Stands (set_opening_of (set_open_answer t.answer sheet zs) sheet ys history table zs history')
open_whole sheet ys history table t zs history' all e p =
    let q = by_value (λ records records'. SetOpenPromise Stands (set_opening_of (set_open_answer t.answer sheet records') sheet records history table records' history')) ys zs t.set all e p.1 p.0 in
    go t.answer q.0 q.1
  where
    go : (answer : Result (Unit {0}) Refusal) → SetOpenPromise Stands (set_opening_of (set_open_answer answer sheet (take 32 zs)) sheet (take 32 ys) history table (take 32 zs) history') → drop 32 zs ≡ drop 32 ys
        → SetOpenPromise Stands (set_opening_of (set_open_answer answer sheet zs) sheet ys history table zs history')
    go (Ok opened) h same = opening_accepted Stands sheet ys zs history table history' same h
    go (Err refusal) h same = opening_refused Stands sheet ys zs history table history' same (number_of refusal) h

-- Likewise a step.
pub step_whole : (sheet : List ℕ) (ys : List Running) (history cells : List ℕ) (flag : ℕ) (report : List ℕ) (t : SteppedSet) (zs : List Running) (history' cells' report' : List ℕ)
    → length t.set.rules ≡ 32 → zs ≡ saved ys t.set
    → SetStepPromise Stands (set_step_of (set_step_answer t.answer sheet (held_rules t.set)) sheet (held_rules (loaded ys)) flag history cells report (held_rules t.set) history' cells' report')
    × OthersKept (loaded ys) t.set
    → SetStepPromise Stands (set_step_of (set_step_answer t.answer sheet zs) sheet ys flag history cells report zs history' cells' report')
step_whole sheet ys history cells flag report t zs history' cells' report' all e p =
    let q = by_value (λ records records'. SetStepPromise Stands (set_step_of (set_step_answer t.answer sheet records') sheet records flag history cells report records' history' cells' report')) ys zs t.set all e p.1 p.0 in
    go t.answer q.0 q.1
  where
    go : (answer : Result StepCounts Refusal) → SetStepPromise Stands (set_step_of (set_step_answer answer sheet (take 32 zs)) sheet (take 32 ys) flag history cells report (take 32 zs) history' cells' report')
        → drop 32 zs ≡ drop 32 ys → SetStepPromise Stands (set_step_of (set_step_answer answer sheet zs) sheet ys flag history cells report zs history' cells' report')
    go (Ok counts) h same = step_accepted Stands sheet ys zs flag history cells report history' cells' report' same counts.reported counts.live h
    go (Err refusal) h same = step_refused Stands sheet ys zs flag history cells report history' cells' report' same (number_of refusal) h
