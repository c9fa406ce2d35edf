-- Records one after another: whether the rules run, and their sums; and what a step of them answers by its tests.
use Prim.Native.Nat.{ℕ, zero, suc, ◌+◌, ◌*◌, ◌-◌, ◌≤◌, ◌<◌, min}
use mathlib.Core.Path.{◌≡◌, refl, sym, ap, ◌∙◌}
use mathlib.Core.Bool.{Bool, true, false, ◌||◌}
use mathlib.Core.Logic.{◌⊎◌, inl, inr}
use mathlib.Core.List.{List, [], ◌∷◌, ◌++◌, map, map-append}
use native.Mathlib.Omega.{arith}
use native.Mathlib.Nat.{sub-zero, zero-min, min-zero, suc-min-suc}
use lib.Dec.{eqb, leb}
use lib.ListN.{length, get_or, take, drop}
use lib.Seq.{take-suc, drop-cons}
use borrow.Author.Tests.{le-leb, lt-leb}
use Rattle.std.specs.Prelude.{Some, None}
use Rattle.refusal.specs.Answer.{Answer, refused, and_then}
use Rattle.sheet.specs.Sheet.{rule_count}
use Rattle.rule.specs.declared.Figures.{Figures}
use Rattle.demand.specs.declared.Running.{Running}
use Rattle.demand.specs.Contract.{must}
use Rattle.demand.specs.SetContract.{no_rule, opened_length, next_tick, all_cells, all_delays, needs, runs, all_run, fit_set, admit_records}
use Rattle.demand.proofs.SetAdmission.{Placed, runs_told}
use Rattle.admission.proofs.Admits.{small}
use Rattle.set_admission.specs.declared.records.Sums.{Sums}
use Rattle.set_admission.specs.Fit.{most_pairs, SumsAre, RunningSums, Summed}
use Rattle.set_admission.proofs.Added.{cells_next, delays_next}

pub take_min : {A : Type 0} (n : ℕ) (l : List A) → take (min n (length l)) l ≡ take n l
take_min zero l = rw zero-min
take_min (suc n) [] = rw min-zero
take_min {A} (suc n) (x ∷ l) = rw suc-min-suc (ap (λ (r : List A). x ∷ r) (take_min n l))

-- ---- the first i of n records

module _ (s : List ℕ) (lead : Running) (rules : List Running) (n : ℕ) where
  pub record SoFar (cells pairs i : ℕ) : Type 0 where
    pub inside : i ≤ n
    pub rest-run : all_run s lead.opened lead.next 0 (take n rules) ≡ all_run s lead.opened lead.next cells (take (n - i) (drop i rules))
    pub cells_are : cells ≡ all_cells (map (needs s) (take i rules))
    pub pairs_are : pairs ≡ all_delays (map (needs s) (take i rules))
    pub some_cells : cells ≤ 4096 * i
    pub some_pairs : pairs ≤ 256 * i

  pub so_far_none : SoFar 0 0 0
  so_far_none =
      record {
        inside = omega arith;
        rest-run = rw (sub-zero n) refl;
        cells_are = refl;
        pairs_are = refl;
        some_cells = omega arith;
        some_pairs = omega arith;
      }

  module _ (cells pairs i : ℕ) (sofar : SoFar cells pairs i) where
    module _ (low : n ≤ 32) (h : n ≤ i) where
      all_here : all_run s lead.opened lead.next 0 (take n rules) ≡ leb cells 4096
      unfolding all_run
      all_here = let z : n - i ≡ 0 = omega arith in sofar.rest-run ∙ rw z refl

      pub so_far_end : cells ≤ 4096 → Summed s lead (take n rules) (Some (record { cells = cells; pairs = pairs }))
      so_far_end few =
          let e : i ≡ n = omega (arith, sofar.inside) in
          record {
            run_is = all_here ∙ le-leb cells 4096 few;
            sums_are = record { cells_are = rw e at sofar.cells_are; pairs_are = rw e at sofar.pairs_are };
            some_cells = few;
            some_pairs = omega (arith, sofar.some_pairs, sofar.inside);
          }

      pub so_far_many : 4096 < cells → Summed s lead (take n rules) None
      so_far_many many = all_here ∙ lt-leb cells 4096 many

    module _ (more : i < n) (room : n ≤ length rules) (rule : Running) (rule_is : rule ≡ get_or rules i no_rule) (answer : Bool)
        (answer_is : answer ≡ runs s lead.opened lead.next cells rule) where
      from_here : take (n - i) (drop i rules) ≡ rule ∷ take (n - (i + 1)) (drop (i + 1) rules)
      from_here =
          let e : n - i ≡ suc (n - (i + 1)) = omega arith in
          let q : i + 1 ≡ suc i = omega arith in
          rw (e, drop-cons rules i no_rule (omega arith), q, rule_is) refl

      pub so_far_broken : answer ≡ false → Summed s lead (take n rules) None
      unfolding all_run
      so_far_broken e = sofar.rest-run ∙ rw (from_here, ← answer_is, e) refl

      module _ (yes_here : answer ≡ true) where
        runs_here : runs s lead.opened lead.next cells rule ≡ true
        runs_here = sym answer_is ∙ yes_here

        placed : Placed s lead.opened lead.next cells rule
        placed = runs_told s lead.opened lead.next cells rule runs_here

        few_here : (rule.cells ≤ 4096) × (rule.delay ≤ 255)
        few_here =
            let w = small _ (needs s rule) placed.opens in
            (omega (arith, w.few, placed.cells_are), omega (arith, w.short, placed.delay_is))

        one_more : map (needs s) (take (i + 1) rules) ≡ map (needs s) (take i rules) ++ (needs s rule ∷ [])
        one_more =
            let q : i + 1 ≡ suc i = omega arith in
            rw (q, take-suc rules i no_rule (omega arith), rule_is) (map-append (needs s) (take i rules) (get_or rules i no_rule ∷ []))

        pub so_far_next : SoFar (cells + rule.cells) (pairs + (rule.delay + 1)) (i + 1)
        unfolding all_run
        so_far_next =
            let c = cells_next (map (needs s) (take i rules)) (needs s rule) in
            let d = delays_next (map (needs s) (take i rules)) (needs s rule) in
            record {
              inside = omega arith;
              rest-run = sofar.rest-run ∙ rw (from_here, runs_here) refl;
              cells_are = rw one_more (omega (arith, c, sofar.cells_are, placed.cells_are));
              pairs_are = rw one_more (omega (arith, d, sofar.pairs_are, placed.delay_is));
              some_cells = omega (arith, sofar.some_cells, few_here.0);
              some_pairs = omega (arith, sofar.some_pairs, few_here.1);
            }

-- ---- 21 before them, by n rules and the first of m records

module _ (s : List ℕ) (rules : List Running) (history cells report n : ℕ) (n_is : n ≡ rule_count s) where
  abbrev admitted : Answer ℕ
  admitted = most_pairs (admit_records s rules history cells report)

  not_one : n < 1 → refused 21 ≡ admitted
  unfolding admit_records must and_then
  not_one h = rw (← n_is, lt-leb 1 n h)

  above_32 : (1 ≤ n) × (32 < n) → refused 21 ≡ admitted
  unfolding admit_records must and_then
  above_32 (h₁, h) = rw (← n_is, le-leb 1 n h₁, lt-leb n 32 h)

  pub outside : (n < 1) ⊎ ((1 ≤ n) × (32 < n)) → refused 21 ≡ admitted
  outside (inl h) = not_one h
  outside (inr h) = above_32 h

  module _ (h₁ : 1 ≤ n) where
    module _ (h₂ : n ≤ 32) (lead : Running) (lead_is : lead ≡ get_or rules 0 no_rule) where
      pub opened_above : 4096 < lead.opened → refused 21 ≡ admitted
      unfolding admit_records must and_then
      opened_above h = rw (← n_is, le-leb 1 n h₁, le-leb n 32 h₂, lt-leb (opened_length rules) 4096 (rw lead_is at h))

      module _ (h₃ : lead.opened ≤ 4096) (m k : ℕ) (m_is : length rules ≡ m) (k_is : k ≡ min n m) where
        all_of_them : take k rules ≡ take n rules
        all_of_them = rw (k_is, ← m_is) (take_min n rules)

        not_above : leb (opened_length rules) 4096 ≡ true
        not_above = le-leb (opened_length rules) 4096 (rw lead_is at h₃)

        pub not_running : Summed s lead (take k rules) None → refused 21 ≡ admitted
        unfolding admit_records must and_then
        not_running e =
            let r : all_run s (opened_length rules) (next_tick rules) 0 (take n rules) ≡ false = rw (all_of_them, lead_is) at e in
            rw (← n_is, le-leb 1 n h₁, le-leb n 32 h₂, not_above, r)

        pub are_running : (sums : Sums) → RunningSums s lead (take k rules) sums → (r : Answer ℕ)
            → ((figures : List Figures) → SumsAre figures sums → r ≡ most_pairs (fit_set figures n lead.opened lead.next history cells report m)) → r ≡ admitted
        unfolding admit_records must and_then
        are_running sums running r h =
            let t : all_run s (opened_length rules) (next_tick rules) 0 (take n rules) ≡ true = rw (all_of_them, lead_is) at running.run_is in
            let a : SumsAre (map (needs s) (take n rules)) sums = rw all_of_them at running.sums_are in
            (rw lead_is at (h (map (needs s) (take n rules)) a)) ∙ rw (← n_is, m_is, le-leb 1 n h₁, le-leb n 32 h₂, not_above, t)

-- 20 of a set, by what it is lent.
pub late_20 : (fs : List Figures) (n L t history cells report records : ℕ) → (eqb records 0 || eqb history L) ≡ true → 4 * all_cells fs ≤ cells → n ≤ records
    → 2 * all_delays fs ≤ report → 4611686018427387904 ≤ t → most_pairs (fit_set fs n L t history cells report records) ≡ refused 20
unfolding fit_set must and_then
late_20 fs n L t history cells report records e h₁ h₂ h₃ h = rw (e, le-leb (4 * all_cells fs) cells h₁, le-leb n records h₂, le-leb (2 * all_delays fs) report h₃, le-leb 4611686018427387904 t h)
