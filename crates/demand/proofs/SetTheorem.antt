-- Every list of calls of a set is, for each of its rules, a list of calls of that rule opened by itself; so demand 3 holds of a set.
use Prim.Native.Nat.{ℕ, zero, suc, ◌+◌, ◌*◌, ◌-◌, ◌%◌, ◌≤◌, ◌<◌}
use mathlib.Core.Path.{◌≡◌, refl, sym, ap, subst, ◌∙◌}
use mathlib.Core.Logic.{◌⊎◌, inl, inr, ◌≢◌}
use mathlib.Core.List.{List, [], ◌∷◌, ◌++◌, map, append-nil}
use native.Mathlib.Nat.{add-zero, zero-add}
use native.Mathlib.Omega.{arith}
use lib.ListN.{length, get_or, take, drop, set, length-append, length-take, length-drop, length-replicate, length-map, take-append-drop, drop_of_length-le, get_or-map}
use lib.Seq.{take-take, take-append_seam, drop-append_seam, take_at, drop_at, ext_get_or, get_or-take}
use borrow.Author.Tests.{le-leb}
use Rattle.refusal.specs.Answer.{Answer, refused, accepted, and_then}
use Rattle.refusal.proofs.Answers.{not_accepted}
use Rattle.sheet.specs.Sheet.{rule_body, body_part, rule_count}
use Rattle.rule.specs.declared.Figures.{Figures}
use Rattle.rule.specs.Formula.{Formula}
use Rattle.rule.specs.Recording.{recorded}
use Rattle.rule.specs.Steps.{live}
use Rattle.demand.specs.declared.Running.{Running}
use Rattle.demand.specs.Contract.{State, Opening, must, room, admit_opening, fresh_state, Invariant, Opened, Takes, Stepped, OpenPromise, StepPromise}
use Rattle.demand.specs.Demand.{Call, step, write, stream, Run, done, stepped, wrote, false_at_step, Decided_by, StepAsStated, Acceptable}
use Rattle.demand.specs.SetContract.{SetOpening, SetTaken, SetStep, SetBatch, no_rule, rule_state, own_cells, next_tick, opened_length, sum, all_cells, largest, all_numbered, how_many, ticks_of, needs, SetOpens, SetOpened, SetStepped}
use Rattle.demand.specs.SetDemand.{SetCall, set_step, refused_set_batch, set_write, SetRefused, set_ticks_after, set_added, set_stream, no_figures, no_formula, SetRefusal, SetBatchRefusal, reports, live_counts, SetReport, SetDemand_3, SetAcceptable, as_state, own_opening, own_taken, own_report, own_step, own_call, own_calls, Alone, OwnParts, SetDemanded}
use Rattle.demand.proofs.Admission.{step_admits, formula_of}
use Rattle.demand.proofs.Theorem as one_rule
use Rattle.demand.proofs.SetLists.{part, part_length, part_take, part_append, cells_inside, cells_apart, history_inside, ticks_all_numbered, all_numbered_length}
use Rattle.demand.proofs.SetAdmission.{Placed}
use Rattle.demand.proofs.SetRules.{own_figures, set_opening_is, set_admitted}
use Rattle.demand.proofs.SetAlong.{told, counted, Along, needs_at, Lent, Took, took, refusal, lent_at, in_count, moved_at, after_at, same_records, next_along, batch_refusal, given_count, given_at, left_at, fresh}
use Rattle.demand.proofs.SetLines.{SetLine, end, own_history, other_history, turned_away, written, as_set_line}

-- ---- lists of calls

own_stream_one : (i : ℕ) (k : SetStep) (a : Answer SetTaken) (calls : List Call) (bytes : List ℕ)
    → stream calls ≡ bytes → stream (own_call i k a calls) ≡ set_added a k.flag bytes
own_stream_one i k (refused n) calls bytes e = e
own_stream_one i k (accepted a) calls bytes e = ap (λ (l : List ℕ). k.flag ∷ l) e

pub own_stream : (i : ℕ) (calls : List SetCall) → stream (own_calls i calls) ≡ set_stream calls
own_stream i [] = refl
own_stream i (set_step k ∷ calls) = own_stream_one i k k.answer (own_calls i calls) (set_stream calls) (own_stream i calls)
own_stream i (refused_set_batch b ∷ calls) = own_stream i calls
own_stream i (set_write w ∷ calls) = own_stream i calls

own_split_one : (i : ℕ) (k : SetStep) (a : Answer SetTaken) (xs ys zs : List Call) → xs ≡ ys ++ zs → own_call i k a xs ≡ own_call i k a ys ++ zs
own_split_one i k (refused n) xs ys zs e = e
own_split_one i k (accepted a) xs ys zs e = ap (λ (l : List Call). step (own_step i k a) ∷ l) e

own_split : (i : ℕ) (before after : List SetCall) → own_calls i (before ++ after) ≡ own_calls i before ++ own_calls i after
own_split i [] after = refl
own_split i (set_step k ∷ before) after = own_split_one i k k.answer (own_calls i (before ++ after)) (own_calls i before) (own_calls i after) (own_split i before after)
own_split i (refused_set_batch b ∷ before) after = own_split i before after
own_split i (set_write w ∷ before) after = ap (λ (l : List Call). write w ∷ l) (own_split i before after)

own_is_step : (i : ℕ) (k : SetStep) (calls : List Call) (b : Answer SetTaken) (a : SetTaken) → b ≡ accepted a → own_call i k b calls ≡ step (own_step i k a) ∷ calls
own_is_step i k calls (refused n) a e = absurd (not_accepted e)
own_is_step i k calls (accepted x) a e = let q : x ≡ a = cc in ap (λ (y : SetTaken). step (own_step i k y) ∷ calls) q

longer : (a : Answer SetTaken) (b t : ℕ) (rest : List ℕ) → t + length (set_added a b rest) ≡ set_ticks_after t a + length rest
longer (refused n) b t rest = refl
longer (accepted x) b t rest = omega arith

-- P t k holds of every step k of a list, and Q t b of every refused batch b, before which t ticks were taken.
abbrev Every : (ℕ → SetStep → Type 0) → (ℕ → SetBatch → Type 0) → ℕ → List SetCall → Type 0
Every P Q t [] = Unit {0}
Every P Q t (set_step k ∷ calls) = P t k × Every P Q (set_ticks_after t k.answer) calls
Every P Q t (refused_set_batch b ∷ calls) = Q t b × Every P Q t calls
Every P Q t (set_write w ∷ calls) = Every P Q t calls

module _ (P : ℕ → SetStep → Type 0) (Q : ℕ → SetBatch → Type 0) where
  -- what holds from some call on
  from : (before after : List SetCall) (t : ℕ) → Every P Q t (before ++ after) → Every P Q (t + length (set_stream before)) after
  from [] after t e = rw (add-zero t) e
  from (set_step j ∷ before) after t e = rw (longer j.answer j.flag t (set_stream before)) (from before after (set_ticks_after t j.answer) e.1)
  from (refused_set_batch b ∷ before) after t e = from before after t e.1
  from (set_write w ∷ before) after t e = from before after t e

  at : (before after : List SetCall) → Every P Q 0 (before ++ after) → Every P Q (length (set_stream before)) after
  at before after e = subst (λ (t : ℕ). Every P Q t after) (zero-add (length (set_stream before))) (from before after 0 e)

pub reports_length : (Fs : List Formula) (bytes : List ℕ) (t : ℕ) → length (reports Fs bytes t) ≡ length Fs
reports_length [] bytes t = refl
reports_length (F ∷ Fs) bytes t = ap suc (reports_length Fs bytes t)

pub reports_at : (Fs : List Formula) (bytes : List ℕ) (t i : ℕ) → i < length Fs → get_or (reports Fs bytes t) i [] ≡ false_at_step (get_or Fs i no_formula) bytes t
reports_at [] bytes t i h = absurd (omega arith)
reports_at (F ∷ Fs) bytes t zero h = refl
reports_at (F ∷ Fs) bytes t (suc i) h = reports_at Fs bytes t i (omega arith)

lives_length : (Fs : List Formula) (bytes : List ℕ) (t : ℕ) → length (live_counts Fs bytes t) ≡ length Fs
lives_length [] bytes t = refl
lives_length (F ∷ Fs) bytes t = ap suc (lives_length Fs bytes t)

pub lives_at : (Fs : List Formula) (bytes : List ℕ) (t i : ℕ) → i < length Fs
    → get_or (live_counts Fs bytes t) i 0 ≡ length (live (get_or Fs i no_formula) (recorded bytes) t)
lives_at [] bytes t i h = absurd (omega arith)
lives_at (F ∷ Fs) bytes t zero h = refl
lives_at (F ∷ Fs) bytes t (suc i) h = lives_at Fs bytes t i (omega arith)

abbrev pub lives : List Running → List ℕ
lives rules = map (λ (rule : Running). rule.live) rules

pub lives_of : (rules : List Running) (i : ℕ) → get_or (lives rules) i 0 ≡ (get_or rules i no_rule).live
lives_of rules i = get_or-map (λ (rule : Running). rule.live) rules i no_rule

module _ (Stands : Invariant) (o : SetOpening) (Fs : List Formula) (fs : List Figures) (c : SetAcceptable o Fs fs) where
  abbrev L : ℕ
  L = length o.history

  abbrev At : List Running → ℕ → Type 0
  At = Along Stands o Fs fs c

  abbrev Lends : List Running → ℕ → SetStep → Type 0
  Lends = Lent Stands o Fs fs c

  abbrev Taking : SetStep → ℕ → SetTaken → Type 0
  Taking = Took Stands o Fs fs c

  -- What stands at each step of a list.
  record Met (t : ℕ) (k : SetStep) : Type 0 where
    records : List Running
    along : At records t
    count : ℕ
    lends : Lends records count k
    promised : SetStepped Stands k k.answer

  all : {h : ℕ} {records : List Running} {table history : List ℕ} {t : ℕ} {calls : List SetCall} → SetLine Stands h L o.sheet records table history t calls
      → At records t → Every Met (SetBatchRefusal fs L) t calls
  all end h = tt
  all (own_history {records = records} {k = k} m n sheet_is records_are own lent w r) h =
      let lends : Lends records m k = record { sheet_is = sheet_is; records_are = records_are } in
      (record { records = records; along = h; count = m; lends = lends; promised = w }, all r (next_along Stands o Fs fs c m k h lends k.answer w))
  all (other_history {records = records} {k = k} m n sheet_is records_are other lent w r) h =
      let lends : Lends records m k = record { sheet_is = sheet_is; records_are = records_are } in
      (record { records = records; along = h; count = m; lends = lends; promised = w }, all r (next_along Stands o Fs fs c m k h lends k.answer w))
  all (turned_away {b = b} m number sheet_is records_are e w r) h = (batch_refusal Stands o Fs fs c m b h sheet_is records_are number e w, all r h)
  all (written j same r) h = all r h

  met_refusal : {t : ℕ} (k : SetStep) → Met t k → SetRefusal fs L t k
  met_refusal k met = refusal Stands o Fs fs c met.count k met.along met.lends k.answer refl met.promised

  -- ---- rule i

  module _ (i : ℕ) (below : i < length fs) where
    abbrev f : Figures
    f = get_or fs i no_figures

    abbrev first : ℕ
    first = all_cells (take i fs)

    abbrev own : List ℕ → List ℕ
    own table = part (4 * first) (4 * f.cells) table

    in_bodies : i < length c.bodies
    in_bodies = omega (arith, c.as_many_figures)

    inside : 4 * first + 4 * f.cells ≤ 4 * all_cells fs
    inside = omega (arith, cells_inside fs i below)

    own_is : {records : List Running} {t : ℕ} → At records t → (table : List ℕ) → own_cells (get_or records i no_rule) table ≡ own table
    own_is {records} h table =
        let p = h.placed i below in
        let size : (get_or records i no_rule).cells ≡ f.cells = sym p.cells_are ∙ ap (λ (g : Figures). g.cells) (needs_at Stands o Fs fs c h i below) in
        rw (p.first-is, size) refl

    own_length : (table : List ℕ) → 4 * all_cells fs ≤ length table → length (own table) ≡ 4 * f.cells
    own_length table h = part_length (4 * first) (4 * f.cells) table (omega (arith, inside))

    nothing_after : (table : List ℕ) → 4 * all_cells fs ≤ length table → drop (4 * f.cells) (own table) ≡ []
    nothing_after table h =
        let q : length (own table) ≤ 4 * f.cells = omega (arith, own_length table h) in
        drop_of_length-le (own table) q

    exact : (table : List ℕ) → take (4 * f.cells) (own table) ≡ own table
    exact table = take-take (4 * f.cells) (4 * f.cells) (drop (4 * first) table) (omega arith)

    module _ {records : List Running} {t : ℕ} (m : ℕ) (k : SetStep) (x : SetTaken) (h : At records t) (lends : Lends records m k) (v : Taking k t x) where
      abbrev r : Running
      r = get_or k.records i no_rule

      abbrev g : Figures
      g = needs k.sheet r

      abbrev ticks : List ℕ
      ticks = ticks_of i x.pairs k.report'

      r_is : r ≡ get_or records i no_rule
      r_is = lent_at Stands o Fs fs c m k x h lends v i below

      there : i < rule_count k.sheet
      there = in_count Stands o Fs fs c m k x h lends v i below

      place : Placed k.sheet L t first r
      place = rw (lends.sheet_is, r_is) (h.placed i below)

      g_is : g ≡ f
      g_is = rw (lends.sheet_is, r_is) (needs_at Stands o Fs fs c h i below)

      g_cells : g.cells ≡ f.cells
      g_cells = ap (λ (y : Figures). y.cells) g_is

      own_r : (table : List ℕ) → own_cells r table ≡ own table
      own_r table = ap (λ (y : Running). own_cells y table) r_is ∙ own_is h table

      exact_r : (table : List ℕ) → take (4 * g.cells) (own_cells r table) ≡ own_cells r table
      exact_r table = rw (g_cells, own_r table) (exact table)

      -- The rule's ticks among the pairs are those that the step promised of it.
      ticks_are : ticks ≡ get_or v.takes.parts i []
      ticks_are =
          let parts = v.takes.parts in
          let rest = drop (2 * how_many parts) k.report in
          rw (v.takes.report_is, v.takes.pairs_are)
          (ap (λ (j : ℕ). ticks_of j (how_many parts) (all_numbered 0 parts ++ rest)) (sym (zero-add i))
          ∙ ticks_all_numbered 0 i parts rest (omega (arith, v.takes.parts_length, there)))

      few : length ticks ≤ g.delay + 1
      few = subst (λ (l : List ℕ). length l ≤ g.delay + 1) (sym ticks_are) (v.takes.each i there).few

      cells_kept : 4 * all_cells fs ≤ length k.cells'
      cells_kept = omega (arith, v.takes.cells_length, v.fit.cells_fit)

      r_length : (table : List ℕ) → 4 * all_cells fs ≤ length table → length (own_cells r table) ≡ 4 * g.cells
      r_length table b = ap length (own_r table) ∙ own_length table b ∙ rw g_cells refl

      r_rest : (table : List ℕ) → 4 * all_cells fs ≤ length table → drop (4 * g.cells) (own_cells r table) ≡ []
      r_rest table b = rw (own_r table, g_cells) (nothing_after table b)

      stored_at : (r.next % r.opened) ≡ (next_tick k.records % opened_length k.records)
      stored_at =
          let z : get_or k.records 0 no_rule ≡ get_or records 0 no_rule = lent_at Stands o Fs fs c m k x h lends v 0 (omega arith) in
          let p = h.placed 0 (omega arith) in
          let next : next_tick k.records ≡ t = ap (λ (y : Running). y.next) z ∙ p.next-is in
          let opened : opened_length k.records ≡ L = ap (λ (y : Running). y.opened) z ∙ p.opened_is in
          rw (place.next-is, place.opened_is, next, opened) refl

      report_long : length ticks + (length (own_report i k) - length ticks) ≡ length (own_report i k)
      report_long = omega (arith, few, place.delay_is, length-replicate {A = ℕ} (r.delay + 1) 0)

      own_takes : Takes Stands (rule_state k.sheet r) (own_step i k x) g (own_taken i k x)
      own_takes =
          record {
            state = ap (rule_state k.sheet) (v.takes.moved i there);
            history_is = v.takes.history_is ∙ ap (λ (j : ℕ). set k.history j k.flag) (sym stored_at);
            cells_length = r_length k.cells' cells_kept ∙ sym (r_length k.cells v.fit.cells_fit);
            cells_rest = r_rest k.cells' cells_kept ∙ sym (r_rest k.cells v.fit.cells_fit);
            few = few;
            few_live = (v.takes.each i there).few_live;
            report_length = omega (
              arith,
              report_long,
              length-append ticks (drop (length ticks) (own_report i k)),
              length-drop {A = ℕ} (length ticks) (own_report i k),
            );
            report_rest = drop-append_seam ticks (drop (length ticks) (own_report i k));
            means = λ F b flags e kept st.
                let y = (v.takes.each i there).means F b flags e kept (subst (λ (l : List ℕ). Stands (rule_state k.sheet r) l flags) (exact_r k.cells) st) in
                record {
                  words = take-append_seam ticks (drop (length ticks) (own_report i k)) ∙ ticks_are ∙ y.words;
                  count = ap length (ticks_are ∙ y.words);
                  open_ticks = y.open_ticks;
                  stands = subst (λ (l : List ℕ). Stands (rule_state k.sheet (get_or x.running i no_rule)) l flags) (sym (exact_r k.cells')) y.stands;
                };
          }

      own_stepped : Stepped Stands (rule_state k.sheet r) (own_step i k x) (accepted (own_taken i k x))
      own_stepped =
          let s = rule_state k.sheet r in
          let z = formula_of s.body_bytes g place.opens in (
            g,
            step_admits s.body_bytes s.opened s.next (length k.history) (length (own_cells r k.cells)) (length (own_report i k)) g
                (record {
                  formula = z.0;
                  reads = z.1;
                  within = z.2;
                  opened_high = omega (arith, place.opened_is, c.history_high);
                  opened_low = place.history_fits;
                  history_fits = v.fit.history_fits ∙ sym place.opened_is;
                  cells_fit = omega (arith, r_length k.cells v.fit.cells_fit);
                  report_fits = omega (arith, place.delay_is, length-replicate {A = ℕ} (r.delay + 1) 0);
                  tick_left = omega (arith, place.next-is, v.fit.tick_left);
                }),
            own_takes,
          )

      abbrev after : Running
      after = get_or (k.records' ++ drop m records) i no_rule

      own_promise : StepPromise Stands as_state (rule_state o.sheet (get_or records i no_rule)) (own_step i k x) (rule_state o.sheet after)
      own_promise =
          let e : rule_state k.sheet r ≡ rule_state o.sheet (get_or records i no_rule) = rw (lends.sheet_is, r_is) refl in
          let now = after_at Stands o Fs fs c m k x h lends v i below in
          record {
            keeps = subst (λ (s : State). Stepped Stands s (own_step i k x) (accepted (own_taken i k x))) e own_stepped;
            left = ap (rule_state o.sheet) (now ∙ moved_at Stands o Fs fs c m k x h lends v i below);
            goes_on = ap (rule_state o.sheet) now ∙ ap (λ (l : List ℕ). rule_state l (get_or x.running i no_rule)) (sym lends.sheet_is);
          }

    -- ---- the list

    same_table : (k : SetStep) (n : ℕ) (table : List ℕ) → k.cells ≡ take n table → k.cells' ≡ k.cells → k.cells' ++ drop n table ≡ table
    same_table k n table lent e = rw (e, lent) (take-append-drop n table)

    abbrev Own : List Running → List ℕ → List ℕ → ℕ → List Call → Type 0
    Own records table history t calls = Run Stands as_state f.history L (rule_state o.sheet (get_or records i no_rule)) (own table) history t calls

    one : {records : List Running} {history history' : List ℕ} {t : ℕ} {calls : List Call} (table : List ℕ) (k : SetStep) (m n : ℕ) → At records t → Lends records m k
        → k.cells ≡ take n table → (a : Answer SetTaken) → SetStepped Stands k a
        → ((x : SetTaken) → a ≡ accepted x → (k.history ≡ history) × (history' ≡ k.history')) → (k.history' ≡ k.history → history' ≡ history)
        → Own (k.records' ++ drop m records) (k.cells' ++ drop n table) history' (set_ticks_after t a) calls
        → Own records table history t (own_call i k a calls)
    one {records} {history} {history'} {t} {calls} table k m n h lends lent (refused number) w ours still rest =
        let e₁ = same_records Stands o Fs fs c m k lends w.1.0 in
        let e₂ = same_table k n table lent w.1.1.1.0 in
        rw (← e₁, ← e₂, ← still w.1.1.0) rest
    one {records} {history} {history'} {t} {calls} table k m n h lends lent (accepted x) w ours still rest =
        let v : Taking k t x = took Stands o Fs fs c m k x h lends w in
        let y : (k.history ≡ history) × (history' ≡ k.history') = ours x refl in
        let long : 4 * all_cells fs ≤ n = omega (arith, v.fit.cells_fit, ap length lent, length-take n table) in
        let long' : 4 * all_cells fs ≤ length table = omega (arith, v.fit.cells_fit, ap length lent, length-take n table) in
        let same : own_cells (get_or k.records i no_rule) k.cells ≡ own table =
        own_r m k x h lends v k.cells ∙ ap own lent ∙ part_take (4 * first) (4 * f.cells) n table (omega (arith, inside)) in
        let now : own (k.cells' ++ drop n table) ≡ own_cells (get_or k.records i no_rule) k.cells' ++ drop (4 * f.cells) (own table) =
        part_append (4 * first) (4 * f.cells) k.cells' (drop n table) (omega (arith, inside, cells_kept m k x h lends v))
        ∙ sym (own_r m k x h lends v k.cells')
        ∙ sym (append-nil (own_cells (get_or k.records i no_rule) k.cells'))
        ∙ ap (λ (l : List ℕ). own_cells (get_or k.records i no_rule) k.cells' ++ l) (sym (nothing_after table long')) in
        stepped {t = t} {calls = calls} (4 * f.cells) y.0 (same ∙ sym (exact table)) (own_promise m k x h lends v) (rw (← now, ← y.1) rest)

    -- a step that brings another history takes no tick
    not_stray : {records : List Running} {t : ℕ} (m : ℕ) (k : SetStep) → At records t → Lends records m k → (length k.history ≢ L) ⊎ SetRefused k.answer
        → (x : SetTaken) → k.answer ≡ accepted x → SetStepped Stands k k.answer → ⊥
    not_stray m k h lends (inl j) x e w = j (took Stands o Fs fs c m k x h lends (subst (SetStepped Stands k) e w)).fit.history_fits
    not_stray m k h lends (inr r) x e w = subst SetRefused e r

    project : {records : List Running} {table history : List ℕ} {t : ℕ} {calls : List SetCall} → SetLine Stands (largest fs) L o.sheet records table history t calls
        → At records t → Own records table history t (own_calls i calls)
    project end h = done
    project (own_history {records = records} {table = table} {k = k} m n sheet_is records_are own_one lent w r) h =
        let lends : Lends records m k = record { sheet_is = sheet_is; records_are = records_are } in
        one table k m n h lends lent k.answer w (λ x e. (own_one, refl)) (λ u. u ∙ own_one) (project r (next_along Stands o Fs fs c m k h lends k.answer w))
    project (other_history {records = records} {table = table} {k = k} m n sheet_is records_are other lent w r) h =
        let lends : Lends records m k = record { sheet_is = sheet_is; records_are = records_are } in
        one table k m n h lends lent k.answer w (λ x e. absurd (not_stray m k h lends other x e w)) (λ u. refl)
        (project r (next_along Stands o Fs fs c m k h lends k.answer w))
    project (turned_away m number sheet_is records_are e w r) h = project r h
    project (written {t = t} j same r) h =
        wrote j (λ q x y. same q x (omega (arith, history_inside fs i below))) (project r h)

  -- ---- the opening

  module _ (given : List Running) (w : SetOpens Stands o given fs) where
    start : At o.records' 0
    start = fresh Stands o Fs fs c given w

    module _ (i : ℕ) (below : i < length fs) where
      abbrev rule : Running
      rule = get_or given i no_rule

      abbrev fig : Figures
      fig = get_or fs i no_figures

      abbrev o' : Opening
      o' = own_opening i o given

      rule_left : get_or o.records' i no_rule ≡ rule
      rule_left = left_at Stands o Fs fs c given w i below

      own_given : (table : List ℕ) → own_cells rule table ≡ own i below table
      own_given table = ap (λ (y : Running). own_cells y table) (sym rule_left) ∙ own_is i below start table

      table_kept : 4 * all_cells fs ≤ length o.table'
      table_kept = omega (arith, w.table_length, c.cells_there)

      given_length : (table : List ℕ) → 4 * all_cells fs ≤ length table → length (own_cells rule table) ≡ 4 * fig.cells
      given_length table b = ap length (own_given table) ∙ own_length i below table b

      given_rest : (table : List ℕ) → 4 * all_cells fs ≤ length table → drop (4 * fig.cells) (own_cells rule table) ≡ []
      given_rest table b = ap (drop (4 * fig.cells)) (own_given table) ∙ nothing_after i below table b

      own_bytes : rule_body o.sheet i ≡ accepted (get_or c.bodies i [])
      own_bytes = (told Stands o Fs fs c).body_of i (in_bodies i below)

      own_acceptable : Acceptable o' (get_or Fs i no_formula) fig
      own_acceptable =
          record {
            body_bytes = get_or c.bodies i [];
            bytes_are = own_bytes;
            formula_is = c.formula_is i (in_bodies i below);
            figures_are = c.figures_are i (in_bodies i below);
            history_low = omega (arith, c.history_low, history_inside fs i below);
            history_high = c.history_high;
            cells_there = omega (arith, given_length o.table c.cells_there);
          }

      own_opening_is : admit_opening o' ≡ accepted fig
      unfolding room must and_then
      own_opening_is =
          simp (
            own_bytes,
            own_figures o Fs fs c i (in_bodies i below),
            le-leb fig.history (length o.history) own_acceptable.history_low,
            le-leb (length o.history) 4096 c.history_high,
            le-leb (4 * fig.cells) (length o'.table) own_acceptable.cells_there,
          )

      own_state : rule_state o.sheet rule ≡ fresh_state (get_or c.bodies i []) L
      own_state =
          let at_once = given_at Stands o Fs fs c given w i below in
          let bytes : (rule_state o.sheet rule).body_bytes ≡ get_or c.bodies i [] = rw (← rule_left) (start.bytes i below) in
          rw (bytes, ap (λ (y : Running). y.opened) at_once, ap (λ (y : Running). y.next) at_once, ap (λ (y : Running). y.live) at_once) refl

      own_opened : Opened Stands o' (accepted (rule_state o.sheet rule))
      own_opened = (
        get_or c.bodies i [],
        fig,
        own_bytes,
        own_opening_is,
        record {
          state = own_state;
          zeroed = w.zeroed;
          table_length = given_length o.table' table_kept ∙ sym (given_length o.table c.cells_there);
          table_rest = given_rest o.table' table_kept ∙ sym (given_rest o.table c.cells_there);
          stands = λ flags.
              let e : own_cells rule o.table' ≡ take (4 * fig.cells) (own_cells rule o.table') =
              own_given o.table' ∙ sym (ap (take (4 * fig.cells)) (own_given o.table') ∙ exact i below o.table') in
              subst (λ (l : List ℕ). Stands (rule_state o.sheet rule) l flags) e (w.stands i (omega (arith, given_count Stands o Fs fs c given w)) flags);
        },
      )

      own_opens : (s : State) → OpenPromise Stands as_state s o' (rule_state o.sheet rule)
      own_opens s =
          record {
            keeps = own_opened;
            left = own_state ∙ ap (λ (y : Answer (List ℕ)). fresh_state (body_part y) L) (sym own_bytes);
            goes_on = refl;
          }

      module _ (calls : List SetCall) (line : SetLine Stands (largest fs) L o.sheet o.records' o.table' o.history' 0 calls) where
        own_run : Run Stands as_state fig.history L (rule_state o.sheet rule) (own_cells rule o.table') o.history' 0 (own_calls i calls)
        own_run = rw (← rule_left, own_is i below start o.table') (project i below line start)

        alone : Alone Stands o given (get_or Fs i no_formula) fig calls i
        alone =
            record {
              acceptable = own_acceptable;
              opens = own_opens;
              runs = own_run;
              same_stream = own_stream i calls;
              demand_3 =
                  let s = rule_state o.sheet rule in
                  (one_rule.demand_3 Stands as_state s s o' (own_opens s)).demand_3 s refl (get_or Fs i no_formula) fig own_acceptable (own_calls i calls) own_run;
            }

        own_tick : (p : ℕ) → p + fig.delay < length (set_stream calls) → Decided_by (get_or Fs i no_formula) (set_stream calls) (p + fig.delay) p
        own_tick p b =
            subst (λ (l : List ℕ). Decided_by (get_or Fs i no_formula) l (p + fig.delay) p) (own_stream i calls)
            (alone.demand_3.every_tick p (omega (arith, ap length (own_stream i calls))))

        module _ (before : List SetCall) (k : SetStep) (after : List SetCall) (cut : calls ≡ before ++ (set_step k ∷ after)) (a : SetTaken) (e : k.answer ≡ accepted a) where
          own_cut : own_calls i calls ≡ own_calls i before ++ (step (own_step i k a) ∷ own_calls i after)
          own_cut =
              ap (own_calls i) cut
              ∙ own_split i before (set_step k ∷ after)
              ∙ ap (λ (l : List Call). own_calls i before ++ l) (own_is_step i k (own_calls i after) k.answer a e)

          own_stated : StepAsStated (get_or Fs i no_formula) fig L (set_stream calls) (length (set_stream before)) (own_step i k a)
          own_stated =
              let F = get_or Fs i no_formula in
              let d = alone.demand_3.every_step (own_calls i before) (own_step i k a) (own_calls i after) own_cut in
              subst (λ (l : List ℕ). StepAsStated F fig L (set_stream calls) (length l) (own_step i k a)) (own_stream i before)
              (subst (λ (l : List ℕ). StepAsStated F fig L l (length (stream (own_calls i before))) (own_step i k a)) (own_stream i calls) d)

          own_reports : (ticks_of i a.pairs k.report' ≡ false_at_step (get_or Fs i no_formula) (set_stream calls) (length (set_stream before)))
              × ((get_or a.running i no_rule).live ≡ length (live (get_or Fs i no_formula) (recorded (set_stream calls)) (length (set_stream before))))
          own_reports =
              let ticks = ticks_of i a.pairs k.report' in
              let x = own_stated.report (own_taken i k a) refl in
              (sym (take-append_seam ticks (drop (length ticks) (own_report i k))) ∙ x.words, x.open_ticks)

    -- ---- all rules together

    module _ (calls : List SetCall) (line : SetLine Stands (largest fs) L o.sheet o.records' o.table' o.history' 0 calls) where
      formulas : length Fs ≡ length fs
      formulas = c.as_many_formulas ∙ sym c.as_many_figures

      together : (before : List SetCall) (k : SetStep) (after : List SetCall) → calls ≡ before ++ (set_step k ∷ after) → (a : SetTaken) → k.answer ≡ accepted a
          → Met (length (set_stream before)) k → SetReport Fs (set_stream calls) (length (set_stream before)) k a
      together before k after cut a e met =
          let bytes = set_stream calls in
          let t = length (set_stream before) in
          let h = met.along in
          let m = met.count in
          let lends = met.lends in
          let v : Taking k t a = took Stands o Fs fs c m k a h lends (subst (SetStepped Stands k) e met.promised) in
          let n : rule_count k.sheet ≡ length fs = ap rule_count lends.sheet_is ∙ sym (counted Stands o Fs fs c) in
          let parts : v.takes.parts ≡ reports Fs bytes t =
          ext_get_or [] v.takes.parts (reports Fs bytes t) (v.takes.parts_length ∙ n ∙ sym (reports_length Fs bytes t ∙ formulas))
          (λ i b.
          let below : i < length fs = omega (arith, v.takes.parts_length, n) in
          sym (ticks_are i below m k a h lends v) ∙ (own_reports i below calls line before k after cut a e).0
          ∙ sym (reports_at Fs bytes t i (omega (arith, formulas)))) in
          let many : length (lives a.running) ≡ length fs = length-map a.running (λ (rule : Running). rule.live) ∙ v.takes.as_many ∙ n in
          let open_ones : lives a.running ≡ live_counts Fs bytes t =
          ext_get_or 0 (lives a.running) (live_counts Fs bytes t) (many ∙ sym (lives_length Fs bytes t ∙ formulas))
          (λ i b.
          let below : i < length fs = omega (arith, many) in
          lives_of a.running i ∙ (own_reports i below calls line before k after cut a e).1 ∙ sym (lives_at Fs bytes t i (omega (arith, formulas)))) in
          let pairs = all_numbered 0 v.takes.parts in
          let size : length pairs ≡ 2 * a.pairs = all_numbered_length 0 v.takes.parts ∙ ap (λ (j : ℕ). 2 * j) (sym v.takes.pairs_are) in
          record {
            words = ap (take (2 * a.pairs)) v.takes.report_is ∙ take_at pairs (drop (2 * a.pairs) k.report) (2 * a.pairs) size ∙ ap (all_numbered 0) parts;
            count = v.takes.pairs_are ∙ ap how_many parts;
            rest = ap (drop (2 * a.pairs)) v.takes.report_is ∙ drop_at pairs (drop (2 * a.pairs) k.report) (2 * a.pairs) size;
            open_ticks = open_ones;
            open_sum = v.takes.live_sum ∙ ap sum open_ones;
          }

      stands_at : (before after : List SetCall) → calls ≡ before ++ after → Every Met (SetBatchRefusal fs L) (length (set_stream before)) after
      stands_at before after cut = at Met (SetBatchRefusal fs L) before after (subst (Every Met (SetBatchRefusal fs L) 0) cut (all line start))

      of_calls : SetDemand_3 Fs fs L calls
      of_calls =
          record {
            every_step = λ before k after cut.
                let met : Met (length (set_stream before)) k = (stands_at before (set_step k ∷ after) cut).0 in
                record { refusal = met_refusal k met; report = λ a e. together before k after cut a e met };
            every_refused_batch = λ before b after cut. (stands_at before (refused_set_batch b ∷ after) cut).0;
            every_tick = λ i below p b. own_tick i below calls line p b;
          }

    -- whatever was written
    module _ (h : ℕ) where
      later : (before after : List SetCall) → SetLine Stands h L o.sheet o.records' o.table' o.history' 0 (before ++ after)
          → Every Met (SetBatchRefusal fs L) (length (set_stream before)) after
      later before after line = at Met (SetBatchRefusal fs L) before after (all line start)

      parts_of : (calls : List SetCall) → SetLine Stands h L o.sheet o.records' o.table' o.history' 0 calls → OwnParts given fs calls
      parts_of calls line =
          record {
            sizes = λ i b. ap (λ (y : Running). y.cells) (given_at Stands o Fs fs c given w i (in_fs i b));
            inside = λ i b. omega (arith, first_at i (in_fs i b), cells_at i (in_fs i b), cells_inside fs i (in_fs i b));
            apart = λ i j b d.
                let below : i < length fs = omega (arith, counts) in
                omega (arith, first_at i below, cells_at i below, first_at j (in_fs j d), cells_apart fs i j b (in_fs j d));
            kept = λ before k after cut i b d.
                let met : Met (length (set_stream before)) k =
                (later before (set_step k ∷ after) (subst (SetLine Stands h L o.sheet o.records' o.table' o.history' 0) cut line)).0 in
                let p = met.along.placed i (in_fs i b) in
                let lent : get_or k.records i no_rule ≡ get_or met.records i no_rule =
                ap (λ (l : List Running). get_or l i no_rule) met.lends.records_are
                ∙ get_or-take met.count met.records i no_rule (omega (arith, ap length met.lends.records_are, length-take met.count met.records)) in
                let same_cells = sym p.cells_are ∙ ap (λ (g : Figures). g.cells) (needs_at Stands o Fs fs c met.along i (in_fs i b)) in
                (ap (λ (y : Running). y.first) lent ∙ p.first-is ∙ sym (first_at i (in_fs i b)), ap (λ (y : Running). y.cells) lent ∙ same_cells ∙ sym (cells_at i (in_fs i b)));
          }
        where
          counts : length given ≡ length fs
          counts = given_count Stands o Fs fs c given w

          in_fs : (i : ℕ) → i < length given → i < length fs
          in_fs i b = omega (arith, counts)

          first_at : (i : ℕ) → i < length fs → (get_or given i no_rule).first ≡ all_cells (take i fs)
          first_at i b = ap (λ (y : Running). y.first) (given_at Stands o Fs fs c given w i b)

          cells_at : (i : ℕ) → i < length fs → (get_or given i no_rule).cells ≡ (get_or fs i no_figures).cells
          cells_at i b = ap (λ (y : Running). y.cells) (given_at Stands o Fs fs c given w i b)

-- ---- the theorem

module _ (Stands : Invariant) (o : SetOpening) where
  accepts : (Fs : List Formula) (fs : List Figures) → SetAcceptable o Fs fs → (a : Answer (List Running)) → SetOpened Stands o a → (given : List Running) × (a ≡ accepted given)
  accepts Fs fs c (refused n) w = absurd (not_accepted (sym w.0 ∙ set_opening_is o Fs fs c))
  accepts Fs fs c (accepted given) w = (given, refl)

  opens_as : (given : List Running) → SetOpened Stands o (accepted given) → (Fs : List Formula) (fs : List Figures) → SetAcceptable o Fs fs → SetOpens Stands o given fs
  opens_as given (gs, j, w) Fs fs c =
      let y : gs ≡ fs = cc (set_opening_is o Fs fs c) in
      subst (λ (l : List Figures). SetOpens Stands o given l) y w

pub set_demand_3 : (Stands : Invariant) → SetDemanded Stands
set_demand_3 Stands o w =
    let H = length o.history in
    let opens : (given : List Running) → o.answer ≡ accepted given → (Fs : List Formula) (fs : List Figures) → SetAcceptable o Fs fs → SetOpens Stands o given fs = λ given e Fs fs c.
    opens_as Stands o given (subst (SetOpened Stands o) e w) Fs fs c in
    record {
      accepts = λ Fs fs c. accepts Stands o Fs fs c o.answer w;
      rules_are = λ given e.
          let v : SetOpened Stands o (accepted given) = subst (SetOpened Stands o) e w in
          let z = set_admitted o v.0 v.1 in
          (z.0, v.0, z.1);
      demand_3 = λ given e Fs fs c calls r. of_calls Stands o Fs fs c given (opens given e Fs fs c) calls (as_set_line Stands (largest fs) H o.sheet r);
      alone = λ given e Fs fs c calls r i b. alone Stands o Fs fs c given (opens given e Fs fs c) i b calls (as_set_line Stands (largest fs) H o.sheet r);
      own_parts = λ given e Fs fs c h calls r. parts_of Stands o Fs fs c given (opens given e Fs fs c) h calls (as_set_line Stands h H o.sheet r);
      refusals = λ given e Fs fs c before k after r.
          met_refusal Stands o Fs fs c k (later Stands o Fs fs c given (opens given e Fs fs c) 0 before (set_step k ∷ after) (as_set_line Stands 0 H o.sheet r)).0;
      batch_refusals = λ given e Fs fs c before b after r.
          (later Stands o Fs fs c given (opens given e Fs fs c) 0 before (refused_set_batch b ∷ after) (as_set_line Stands 0 H o.sheet r)).0;
    }
