-- The loop of a set's step, one rule a turn: its invariant, and that it ends in what the step promises.
use Prim.Native.Nat.{ℕ, suc, ◌+◌, ◌*◌, ◌%◌, ◌≤◌, ◌<◌}
use mathlib.Core.Path.{◌≡◌, refl, sym, ap, subst, ◌∙◌}
use mathlib.Core.Logic.{◌⊎◌, inl, inr}
use mathlib.Core.List.{List, [], ◌∷◌, ◌++◌, append_assoc, append-nil}
use native.Mathlib.Nat.{add-zero, zero-add, not-suc-le-zero}
use native.Mathlib.Omega.{arith}
use lib.ListN.{length, get_or, take, drop, set, length-append, length-drop, length-set, take-append-drop, get_or-append}
use lib.Seq.{take_at, drop_at, drop-drop, length-take-le, get_or_at, get_or-drop, get_or-take, get_or-set_same, get_or-set_other, drop-set-lt, take-suc-set}
use Rattle.refusal.specs.Answer.{Answer}
use Rattle.sheet.specs.Sheet.{rule_count}
use Rattle.rule.specs.declared.Figures.{Figures}
use Rattle.rule.proofs.Order.{by_order}
use Rattle.demand.specs.declared.Running.{Running}
use Rattle.demand.specs.Contract.{Invariant}
use Rattle.demand.specs.SetContract.{SetTaken, set_step_of, no_rule, rule_state, own_cells, next_rule, running_rules, opened_length, next_tick, all_live, all_cells, all_delays, numbered, all_numbered, how_many, needs, Ticked, SetTakes}
use Rattle.demand.specs.SetDemand.{no_figures}
use Rattle.demand.proofs.SetLists.{spliced, spliced_length, spliced_own, spliced_before, spliced_after, all_numbered_length}
use Rattle.demand.proofs.SetAdmission.{SetAdmitted, figures_count, rule_placed, figure_at, own_inside, own_apart}

-- ---- one more

how_many_more : (ls : List (List ℕ)) (l : List ℕ) → how_many (ls ++ (l ∷ [])) ≡ how_many ls + length l
how_many_more [] l = omega arith
how_many_more (x ∷ ls) l = omega (arith, how_many_more ls l)

all_numbered_more : (j : ℕ) (ls : List (List ℕ)) (l : List ℕ) → all_numbered j (ls ++ (l ∷ [])) ≡ all_numbered j ls ++ numbered (j + length ls) l
all_numbered_more j [] l = append-nil (numbered j l) ∙ rw (add-zero j) refl
all_numbered_more j (x ∷ ls) l =
    let q : suc j + length ls ≡ j + suc (length ls) = omega arith in
    ap (λ (r : List ℕ). numbered j x ++ r) (all_numbered_more (suc j) ls l ∙ rw q refl)
    ∙ sym (append_assoc (numbered j x) (all_numbered (suc j) ls) (numbered (j + suc (length ls)) l))

live_more : (rules : List Running) (rule : Running) → all_live (rules ++ (rule ∷ [])) ≡ all_live rules + rule.live
live_more [] rule = omega arith
live_more (x ∷ rules) rule = omega (arith, live_more rules rule)

-- Ticks of the first rules leave room for twice the next one's delay + 1.
few_pairs : (ls : List (List ℕ)) (fs : List Figures) → length ls < length fs → ((i : ℕ) → i < length ls → length (get_or ls i []) ≤ (get_or fs i no_figures).delay + 1)
    → how_many ls + ((get_or fs (length ls) no_figures).delay + 1) ≤ all_delays fs
few_pairs ls [] h few = absurd (not-suc-le-zero h)
few_pairs [] (f ∷ fs) h few = omega arith
few_pairs (l ∷ ls) (f ∷ fs) h few =
    omega (arith, few 0 (omega arith), few_pairs ls fs (omega arith) (λ i x. few (suc i) (omega arith)))

few_live : (rules : List Running) (fs : List Figures) → length rules < length fs → ((i : ℕ) → i < length rules → (get_or rules i no_rule).live ≤ (get_or fs i no_figures).delay + 1)
    → all_live rules + ((get_or fs (length rules) no_figures).delay + 1) ≤ all_delays fs
few_live rules [] h few = absurd (not-suc-le-zero h)
few_live [] (f ∷ fs) h few = omega arith
few_live (r ∷ rules) (f ∷ fs) h few =
    omega (arith, few 0 (omega arith), few_live rules fs (omega arith) (λ i x. few (suc i) (omega arith)))

-- ---- the loop

module _ (Stands : Invariant) (sheet : List ℕ) (figures : List Figures) (flag : ℕ) (history cells₀ report₀ : List ℕ) (records₀ : List Running) where
  abbrev rule : ℕ → Running
  rule i = get_or records₀ i no_rule

  -- Rule i has taken the tick, in these cells, with these ticks; this is now its record.
  abbrev pub Took : ℕ → List ℕ → List ℕ → Running → Type 0
  Took i cells ticks after =
      Ticked Stands (rule_state sheet (rule i)) (needs sheet (rule i)) flag history (own_cells (rule i) cells₀) (own_cells (rule i) cells) ticks (rule_state sheet after)

  -- The first m rules have taken the tick: these are now the cells, the report, the records, the number of pairs and how many ticks are live.
  pub record Upto (m : ℕ) (cells report : List ℕ) (records : List Running) (pairs live : ℕ) : Type 0 where
    pub parts : List (List ℕ)
    pub parts_length : length parts ≡ m
    pub pairs_are : pairs ≡ how_many parts
    pub live_sum : live ≡ all_live (take m records)
    pub report_is : report ≡ all_numbered 0 parts ++ drop (2 * pairs) report₀
    pub report_length : length report ≡ length report₀
    pub records_length : length records ≡ length records₀
    pub records_rest : drop m records ≡ drop m records₀
    pub cells_length : length cells ≡ length cells₀
    pub cells_rest : drop (4 * all_cells figures) cells ≡ drop (4 * all_cells figures) cells₀
    pub moved : (i : ℕ) → i < m → get_or records i no_rule ≡ next_rule (rule i) (get_or records i no_rule).live
    pub took : (i : ℕ) → i < m → Took i cells (get_or parts i []) (get_or records i no_rule)
    pub still : (i : ℕ) → m ≤ i → i < rule_count sheet → own_cells (rule i) cells ≡ own_cells (rule i) cells₀

  pub upto_none : Upto 0 cells₀ report₀ records₀ 0 0
  upto_none =
      record {
        parts = [];
        parts_length = refl;
        pairs_are = refl;
        live_sum = refl;
        report_is = refl;
        report_length = refl;
        records_length = refl;
        records_rest = refl;
        cells_length = refl;
        cells_rest = refl;
        moved = λ i h. absurd (not-suc-le-zero h);
        took = λ i h. absurd (not-suc-le-zero h);
        still = λ i h k. refl;
      }

  module _ (known : SetAdmitted sheet records₀ (length history) (length cells₀) (length report₀) figures) where
    module _ {m : ℕ} {cells report : List ℕ} {records : List Running} {pairs live : ℕ} (u : Upto m cells report records pairs live) (more : m < rule_count sheet) where
      -- The next record to be read is as it was lent.
      pub upto_record : get_or records m no_rule ≡ rule m
      upto_record =
          ap (λ (j : ℕ). get_or records j no_rule) (sym (add-zero m))
          ∙ sym (get_or-drop m records 0 no_rule)
          ∙ ap (λ (l : List Running). get_or l 0 no_rule) u.records_rest
          ∙ get_or-drop m records₀ 0 no_rule
          ∙ ap (λ (j : ℕ). get_or records₀ j no_rule) (add-zero m)

      -- Its cells are as they were lent, and lie in the table.
      pub turn_cells : own_cells (rule m) cells ≡ own_cells (rule m) cells₀
      turn_cells = u.still m (omega arith) more

      pub turn_fits : 4 * (rule m).first + 4 * (rule m).cells ≤ length cells
      turn_fits = omega (arith, own_inside known m more, u.cells_length, known.cells_fit)

      delay_at : (i : ℕ) → i < rule_count sheet → (get_or figures i no_figures).delay ≡ (needs sheet (rule i)).delay
      delay_at i h = ap (λ (f : Figures). f.delay) (figure_at known i h)

      -- The pairs so far and those of the turn are no more than all delay + 1, and so are the live ticks.
      pub turn_pairs : pairs + ((rule m).delay + 1) ≤ all_delays figures
      turn_pairs =
          let few = few_pairs u.parts figures (omega (arith, u.parts_length, figures_count known))
          (λ i h. subst (λ (d : ℕ). length (get_or u.parts i []) ≤ d + 1) (sym (delay_at i (omega (arith, u.parts_length)))) (u.took i (omega (arith, u.parts_length))).few) in
          let e : (get_or figures (length u.parts) no_figures).delay ≡ (rule m).delay =
          ap (λ (j : ℕ). (get_or figures j no_figures).delay) u.parts_length ∙ delay_at m more ∙ (rule_placed known m more).delay_is in
          omega (arith, u.pairs_are, few, e)

      pub turn_live : live + ((rule m).delay + 1) ≤ all_delays figures
      turn_live =
          let first = take m records in
          let long : length first ≡ m = length-take-le m records (omega (arith, u.records_length, known.records_fit)) in
          let few = few_live (take m records) figures (omega (arith, long, figures_count known)) (λ i h.
          let below : i < m = omega (arith, long) in
          rw (get_or-take m records i no_rule below)
          (subst (λ (d : ℕ). (get_or records i no_rule).live ≤ d + 1) (sym (delay_at i (omega arith))) (u.took i below).few_live)) in
          let e : (get_or figures (length first) no_figures).delay ≡ (rule m).delay =
          ap (λ (j : ℕ). (get_or figures j no_figures).delay) long ∙ delay_at m more ∙ (rule_placed known m more).delay_is in
          omega (arith, u.live_sum, few, e)

      -- 19 asks enough for the turn: delay + 1 ticks, and room to make pairs of them.
      pub turn_room : 2 * pairs + 2 * ((rule m).delay + 1) ≤ length report
      turn_room = omega (arith, turn_pairs, known.report_fits, u.report_length)

      module _ (ys ticks : List ℕ) (live_count : ℕ) (size : length ys ≡ 4 * (rule m).cells)
          (tick : Ticked Stands (rule_state sheet (rule m)) (needs sheet (rule m)) flag history (own_cells (rule m) cells) ys ticks
          (rule_state sheet (next_rule (rule m) live_count))) where
        abbrev first : ℕ
        first = 4 * (rule m).first

        abbrev room : ℕ
        room = 4 * (rule m).cells

        abbrev cells' : List ℕ
        cells' = spliced first room cells ys

        abbrev parts' : List (List ℕ)
        parts' = u.parts ++ (ticks ∷ [])

        abbrev records' : List Running
        records' = set records m (next_rule (rule m) live_count)

        abbrev report' : List ℕ
        report' = take (2 * pairs) report ++ (numbered m ticks ++ drop (2 * pairs + 2 * length ticks) report)

        there : m < length records
        there = omega (arith, u.records_length, known.records_fit)

        report_next : report' ≡ all_numbered 0 parts' ++ drop (2 * (pairs + length ticks)) report₀
        report_next =
            let P = all_numbered 0 u.parts in
            let long : length P ≡ 2 * pairs = omega (arith, all_numbered_length 0 u.parts, u.pairs_are) in
            let e₁ : take (2 * pairs) report ≡ P = ap (take (2 * pairs)) u.report_is ∙ take_at P (drop (2 * pairs) report₀) (2 * pairs) long in
            let e₂ : drop (2 * pairs) report ≡ drop (2 * pairs) report₀ = ap (drop (2 * pairs)) u.report_is ∙ drop_at P (drop (2 * pairs) report₀) (2 * pairs) long in
            let e₃ : drop (2 * pairs + 2 * length ticks) report ≡ drop (2 * (pairs + length ticks)) report₀ =
            sym (drop-drop (2 * length ticks) (2 * pairs) report) ∙ ap (drop (2 * length ticks)) e₂ ∙ drop-drop (2 * length ticks) (2 * pairs) report₀
            ∙ ap (λ (j : ℕ). drop j report₀) (sum_twice pairs (length ticks)) in
            let e₄ : all_numbered 0 parts' ≡ P ++ numbered m ticks =
            all_numbered_more 0 u.parts ticks ∙ ap (λ (j : ℕ). P ++ numbered j ticks) (zero-add (length u.parts) ∙ u.parts_length) in
            rw (e₁, e₃, e₄) (sym (append_assoc P (numbered m ticks) (drop (2 * (pairs + length ticks)) report₀)))
          where
            sum_twice : (x y : ℕ) → 2 * x + 2 * y ≡ 2 * (x + y)
            sum_twice x y = omega arith

        same_length : length report' ≡ length report₀
        same_length =
            let all = all_numbered 0 parts' in
            let n = 2 * (pairs + length ticks) in
            omega (
              arith,
              ap length report_next,
              length-append all (drop n report₀),
              all_numbered_length 0 parts',
              how_many_more u.parts ticks,
              u.pairs_are,
              length-drop n report₀,
              turn_pairs,
              tick.few,
              (rule_placed known m more).delay_is,
              known.report_fits,
            )

        stored : get_or records' m no_rule ≡ next_rule (rule m) live_count
        stored = get_or-set_same records m (next_rule (rule m) live_count) no_rule there

        before : (i : ℕ) → i < m → get_or records' i no_rule ≡ get_or records i no_rule
        before i h = get_or-set_other records m i (next_rule (rule m) live_count) no_rule (λ e. omega arith)

        moved_next : (i : ℕ) → i < suc m → get_or records' i no_rule ≡ next_rule (rule i) (get_or records' i no_rule).live
        moved_next i h = go (by_order m i)
          where
            here : i ≡ m → get_or records' i no_rule ≡ next_rule (rule i) (get_or records' i no_rule).live
            here e = rw (e, stored) refl

            go : (m ≤ i) ⊎ (i < m) → get_or records' i no_rule ≡ next_rule (rule i) (get_or records' i no_rule).live
            go (inl x) = here (omega arith)
            go (inr x) = rw (before i x) (u.moved i x)

        took_next : (i : ℕ) → i < suc m → Took i cells' (get_or parts' i []) (get_or records' i no_rule)
        took_next i h = go (by_order m i)
          where
            here : i ≡ m → Took i cells' (get_or parts' i []) (get_or records' i no_rule)
            here e =
                let q₁ : get_or parts' m [] ≡ ticks = get_or_at u.parts ticks [] [] m u.parts_length in
                let q₃ : own_cells (rule m) cells' ≡ ys = spliced_own first room cells ys turn_fits size in
                rw (e, q₁, stored, q₃, ← turn_cells) tick

            go : (m ≤ i) ⊎ (i < m) → Took i cells' (get_or parts' i []) (get_or records' i no_rule)
            go (inl x) = here (omega arith)
            go (inr x) =
                let q₁ : get_or parts' i [] ≡ get_or u.parts i [] = get_or-append u.parts (ticks ∷ []) [] i (omega (arith, u.parts_length)) in
                let q₃ : own_cells (rule i) cells' ≡ own_cells (rule i) cells =
                spliced_before first room cells ys turn_fits size (4 * (rule i).first) (4 * (rule i).cells) (own_apart known i m x more) in
                rw (q₁, before i x, q₃) (u.took i x)

        -- One turn: the rule's cells are ys, its ticks follow the pairs so far, and its record has moved.
        pub upto_next : Upto (suc m) cells' report' records' (pairs + length ticks) (live + live_count)
        upto_next =
            record {
              parts = parts';
              parts_length = omega (arith, length-append u.parts (ticks ∷ []), u.parts_length);
              pairs_are = omega (arith, how_many_more u.parts ticks, u.pairs_are);
              live_sum = rw (take-suc-set records m (next_rule (rule m) live_count) there) (omega (arith, live_more (take m records) (next_rule (rule m) live_count), u.live_sum));
              report_is = report_next;
              report_length = same_length;
              records_length = length-set records m (next_rule (rule m) live_count) ∙ u.records_length;
              records_rest = drop-set-lt (suc m) records m (next_rule (rule m) live_count) (omega arith) ∙ dropped_one;
              cells_length = spliced_length first room cells ys turn_fits size ∙ u.cells_length;
              cells_rest = spliced_after first room cells ys turn_fits size (4 * all_cells figures) (own_inside known m more) ∙ u.cells_rest;
              moved = moved_next;
              took = took_next;
              still = λ i h k.
                  ap (take (4 * (rule i).cells)) (spliced_after first room cells ys turn_fits size (4 * (rule i).first) (own_apart known m i (omega arith) k))
                  ∙ u.still i (omega arith) k;
            }
          where
            dropped_one : drop (suc m) records ≡ drop (suc m) records₀
            dropped_one =
                let q : m + 1 ≡ suc m = omega arith in
                ap (λ (j : ℕ). drop j records) (sym q) ∙ sym (drop-drop 1 m records) ∙ ap (drop 1) u.records_rest ∙ drop-drop 1 m records₀ ∙ ap (λ (j : ℕ). drop j records₀) q

    -- After all rules, with the flag byte stored: the promise of the step.
    pub upto_all : {cells report : List ℕ} {records : List Running} {pairs live : ℕ} (answer : Answer SetTaken) → Upto (rule_count sheet) cells report records pairs live
        → SetTakes Stands
        (set_step_of answer sheet records₀ flag history cells₀ report₀ records (set history (next_tick records₀ % opened_length records₀) flag) cells report)
        figures (record { pairs = pairs; live_count = live; running = running_rules sheet records })
    upto_all {records = records} answer u =
        let n = rule_count sheet in
        let at : (i : ℕ) → i < n → get_or (take n records) i no_rule ≡ get_or records i no_rule = λ i h. get_or-take n records i no_rule h in
        record {
          as_many = length-take-le n records (omega (arith, u.records_length, known.records_fit));
          records_are = sym (take-append-drop n records) ∙ ap (λ (l : List Running). take n records ++ l) u.records_rest;
          live_sum = u.live_sum;
          history_is = refl;
          cells_length = u.cells_length;
          cells_rest = u.cells_rest;
          parts = u.parts;
          parts_length = u.parts_length;
          pairs_are = u.pairs_are;
          report_is = u.report_is;
          moved = λ i h. rw (at i h) (u.moved i h);
          each = λ i h. rw (at i h) (u.took i h);
        }
