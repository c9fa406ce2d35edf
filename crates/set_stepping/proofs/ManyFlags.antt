-- Many flags of a set: the invariant of the loop that takes them, a link of the chain at each turn, and that it ends in what the batch promises.
use Prim.Native.Nat.{ℕ, zero, suc, ◌+◌, ◌*◌, ◌-◌, ◌≤◌, ◌<◌, min}
use mathlib.Core.Path.{◌≡◌, refl, sym, ap, subst, ◌∙◌}
use mathlib.Core.Logic.{◌⊎◌, inl, inr}
use mathlib.Core.List.{List, [], ◌∷◌, ◌++◌, append_assoc}
use native.Mathlib.Nat.{add-zero}
use native.Mathlib.Omega.{arith}
use lib.ListN.{length, get_or, take, drop, length-append, length-drop, take-append-drop}
use lib.Seq.{length-take-le, take_at, drop_at, drop-drop}
use Rattle.refusal.specs.Answer.{accepted}
use Rattle.rule.specs.declared.Figures.{Figures}
use Rattle.rule.proofs.Order.{by_order}
use Rattle.demand.specs.declared.Running.{Running}
use Rattle.demand.specs.SetContract.{SetStep, running_rules, next_tick, all_live, all_delays, timed, admit_records, set_step_of, set_batch_of, SetTakes, SetChain, none, more, SetSteps}
use Rattle.demand.proofs.SetAdmission.{SetAdmitted, set_step_admitted, few_delays}
use Rattle.cell_runs.specs.Moves.{Stands}
use Rattle.set_stepping.specs.Answers.{set_taken, set_counts}
use Rattle.set_stepping.specs.Batches.{TimedFit, TimedMoved}
use Rattle.set_stepping.proofs.Next.{admits, next_known, next-is}
use Rattle.set_stepping.proofs.Timed.{few_reported}

pub length_timed : (step pairs : ℕ) (words : List ℕ) → length words ≡ 2 * pairs → length (timed step words) ≡ 3 * pairs
length_timed step zero [] e = refl
length_timed step zero (x ∷ words) e = absurd (omega arith)
length_timed step (suc pairs) [] e = absurd (omega arith)
length_timed step (suc pairs) (x ∷ []) e = absurd (omega arith)
length_timed step (suc pairs) (x ∷ y ∷ words) e = omega (arith, length_timed step pairs words (omega arith))

module _ (sheet : List ℕ) (records₀ : List Running) (flags history₀ cells₀ report₀ : List ℕ) (figures : List Figures) where
  -- So far: so many flags are taken, and their triples stand at the front of the report.
  pub record Under (records : List Running) (history cells report : List ℕ) (taken triples live : ℕ) : Type 0 where
    pub some : taken ≤ length flags
    pub early : next_tick records₀ + taken ≤ 4611686018427387904
    pub inside : 3 * triples ≤ length report₀
    pub report_length : length report ≡ length report₀
    pub history_length : length history ≡ length history₀
    pub cells_length : length cells ≡ length cells₀
    pub rest : drop (3 * triples) report ≡ drop (3 * triples) report₀
    pub live_is : live ≡ all_live (running_rules sheet records)
    pub next : next_tick records ≡ next_tick records₀ + taken
    pub known : next_tick records < 4611686018427387904 → SetAdmitted sheet records (length history) (length cells) 8192 figures
    pub chain : SetChain Stands (all_delays figures) sheet flags report₀ records₀ history₀ cells₀ taken records history cells (take (3 * triples) report)

  module _ (admitted : admit_records sheet records₀ (length history₀) (length cells₀) 8192 ≡ accepted figures) where
    first_known : SetAdmitted sheet records₀ (length history₀) (length cells₀) 8192 figures
    first_known = set_step_admitted sheet records₀ (length history₀) (length cells₀) 8192 figures admitted

    pub few : all_delays figures ≤ 4096
    few = few_delays first_known

    pub under_start : (live : ℕ) → live ≡ all_live (running_rules sheet records₀) → Under records₀ history₀ cells₀ report₀ 0 0 live
    under_start live live_is =
        record {
          some = omega arith;
          early = omega (arith, first_known.tick_left);
          inside = omega arith;
          report_length = refl;
          history_length = refl;
          cells_length = refl;
          rest = refl;
          live_is = live_is;
          next = sym (add-zero (next_tick records₀));
          known = λ left. first_known;
          chain = none;
        }

  module _ (records : List Running) (history cells report : List ℕ) (taken triples live : ℕ) (u : Under records history cells report taken triples live) where
    front_long : length (take (3 * triples) report) ≡ 3 * triples
    front_long = length-take-le (3 * triples) report (omega (arith, u.inside, u.report_length))

    -- A batch that ends here.
    abbrev Over : Type 0
    Over = (length flags ≤ taken) ⊎ ((length report₀ < 3 * triples + 3 * all_delays figures) ⊎ (next_tick records ≡ 4611686018427387904))

    over_as : (k : ℕ) → k ≡ 3 * triples → Over → (length flags ≤ taken) ⊎ ((length report₀ < k + 3 * all_delays figures) ⊎ (next_tick records ≡ 4611686018427387904))
    over_as k e (inl o) = inl o
    over_as k e (inr (inl o)) = inr (inl (omega arith))
    over_as k e (inr (inr o)) = inr (inr o)

    abbrev Taken : Type 0
    Taken =
        SetSteps Stands
        (set_batch_of (accepted (set_counts taken triples live sheet records)) sheet records₀ flags history₀ cells₀ report₀ records history cells report) figures
        (set_counts taken triples live sheet records)

    pub ends : Over → Taken
    ends o =
        record {
          words = take (3 * triples) report;
          chain = u.chain;
          count = front_long;
          report_is =
              sym (take-append-drop (3 * triples) report) ∙ ap (λ (l : List ℕ). take (3 * triples) report ++ l) u.rest
              ∙ ap (λ (k : ℕ). take (3 * triples) report ++ drop k report₀) (sym front_long);
          running_is = refl;
          live_sum = u.live_is;
          ended = over_as (length (take (3 * triples) report)) front_long o;
        }

    -- The report has no room for another step; or all flags that can be taken are.
    pub ends_full : length report₀ < 3 * triples + 3 * all_delays figures → Taken
    ends_full h = ends (inr (inl h))

    pub ends_all : (n : ℕ) → n ≡ min (length flags) (4611686018427387904 - next_tick records₀) → n ≤ taken → Taken
    ends_all n e h = ends (go (by_order (length flags) taken))
      where
        go : (length flags ≤ taken) ⊎ (taken < length flags) → Over
        go (inl a) = inl a
        go (inr a) = inr (inr (omega (arith, u.early, u.next)))

    -- One flag more.
    module _ (room : 3 * triples + 3 * all_delays figures ≤ length report₀) (below : taken < length flags) (timely : next_tick records₀ + taken < 4611686018427387904)
        (few : all_delays figures ≤ 4096) (part : List ℕ) (part_is : part ≡ drop (3 * triples) report) where
      left : next_tick records < 4611686018427387904
      left = omega (arith, u.next)

      part_whole : part ≡ drop (3 * triples) report₀
      part_whole = part_is ∙ u.rest

      part_long : length part ≡ length report₀ - 3 * triples
      part_long = ap length part_whole ∙ length-drop (3 * triples) report₀

      pub timed_fits : (pairs : ℕ) → pairs ≡ all_delays figures → TimedFit sheet records (length history) (length cells) (length part) pairs
      timed_fits pairs e =
          record {
            figures = figures;
            admitted = admits sheet records (length history) (length cells) 8192 figures (u.known left) (2 * pairs) (omega arith);
            pairs_are = e;
            room = omega (arith, part_long);
          }

      module _ (reported live' : ℕ) (records' : List Running) (history' cells' part' : List ℕ)
          (moved : TimedMoved sheet records history (get_or flags taken 0) cells part (all_delays figures) reported live' records' history' cells' part')
          (history_kept : length history' ≡ length history) (cells_kept : length cells' ≡ length cells) where
        words_long : length moved.words ≡ 2 * all_delays figures
        words_long = moved.words_long

        lent : length (take (2 * all_delays figures) part) ≡ 2 * all_delays figures
        lent = length-take-le (2 * all_delays figures) part (omega (arith, part_long))

        admitted : admit_records sheet records (length history) (length cells) (length (take (2 * all_delays figures) part)) ≡ accepted figures
        admitted = rw lent (admits sheet records (length history) (length cells) 8192 figures (u.known left) (2 * all_delays figures) (omega arith))

        abbrev made : SetStep
        made =
            set_step_of (accepted (set_taken reported live' sheet records')) sheet records (get_or flags taken 0) history cells (take (2 * all_delays figures) part) records' history' cells'
            moved.words

        takes : SetTakes Stands made figures (set_taken reported live' sheet records')
        takes = moved.moved figures admitted

        pub few_reported' : reported ≤ all_delays figures
        few_reported' =
            few_reported sheet records history (get_or flags taken 0) cells part (all_delays figures) (timed_fits (all_delays figures) refl) reported live' records' history' cells'
            moved.words moved.moved (words_long ∙ sym lent)

        abbrev triple_words : List ℕ
        triple_words = timed (next_tick records) (take (2 * reported) moved.words)

        triple_long : length triple_words ≡ 3 * reported
        triple_long =
            length_timed (next_tick records) reported (take (2 * reported) moved.words) (length-take-le (2 * reported) moved.words (omega (arith, few_reported', words_long)))

        abbrev known' : SetAdmitted sheet records (length history) (length cells) 8192 figures
        known' = u.known left

        module _ (report' : List ℕ) (pasted : report' ≡ take (3 * triples) report ++ part') where
          whole : report' ≡ (take (3 * triples) report ++ triple_words) ++ drop (3 * reported) part
          whole =
              pasted ∙ ap (λ (l : List ℕ). take (3 * triples) report ++ l) moved.report_is
              ∙ sym (append_assoc (take (3 * triples) report) triple_words (drop (3 * reported) part))

          long : length (take (3 * triples) report ++ triple_words) ≡ 3 * (triples + reported)
          long = omega (arith, length-append (take (3 * triples) report) triple_words, front_long, triple_long)

          front : take (3 * (triples + reported)) report' ≡ take (3 * triples) report ++ triple_words
          front =
              ap (take (3 * (triples + reported))) whole ∙ take_at (take (3 * triples) report ++ triple_words) (drop (3 * reported) part) (3 * (triples + reported)) long

          after : drop (3 * (triples + reported)) report' ≡ drop (3 * (triples + reported)) report₀
          after =
              let e : 3 * triples + 3 * reported ≡ 3 * (triples + reported) = omega arith in
              ap (drop (3 * (triples + reported))) whole ∙ drop_at (take (3 * triples) report ++ triple_words) (drop (3 * reported) part) (3 * (triples + reported)) long
              ∙ ap (drop (3 * reported)) part_whole ∙ drop-drop (3 * reported) (3 * triples) report₀ ∙ ap (λ (k : ℕ). drop k report₀) e

          linked : SetChain Stands (all_delays figures) sheet flags report₀ records₀ history₀ cells₀ (suc taken) records' history' cells' (take (3 * triples) report ++ triple_words)
          linked =
              more made u.chain below (omega (arith, front_long)) refl refl refl refl refl
              (ap (take (2 * all_delays figures)) part_whole ∙ ap (λ (k : ℕ). take (2 * all_delays figures) (drop k report₀)) (sym front_long)) refl
              (figures, admitted, takes)

          pub under_next : Under records' history' cells' report' (suc taken) (triples + reported) live'
          under_next =
              let next : next_tick records' ≡ suc (next_tick records) = next-is Stands made figures (set_taken reported live' sheet records') (length history) (length cells) 8192 known' takes in
              let tick = u.next in
              let still = next_known Stands made figures (set_taken reported live' sheet records') (length history) (length cells) 8192 known' takes in
              record {
                some = omega arith;
                early = omega arith;
                inside = omega (arith, few_reported');
                report_length =
                    omega (
                      arith,
                      ap length whole,
                      length-append (take (3 * triples) report ++ triple_words) (drop (3 * reported) part),
                      long,
                      length-drop (3 * reported) part,
                      part_long,
                      few_reported',
                    );
                history_length = history_kept ∙ u.history_length;
                cells_length = cells_kept ∙ u.cells_length;
                rest = after;
                live_is = takes.live_sum;
                next = omega (arith, next, tick);
                known = λ more_left.
                    subst (λ (H : ℕ). SetAdmitted sheet records' H (length cells') 8192 figures) (sym history_kept)
                    (subst (λ (C : ℕ). SetAdmitted sheet records' (length history) C 8192 figures) (sym cells_kept) (still (omega (arith, next, more_left)) 8192 (omega arith)));
                chain =
                    subst (λ (l : List ℕ). SetChain Stands (all_delays figures) sheet flags report₀ records₀ history₀ cells₀ (suc taken) records' history' cells' l) (sym front) linked;
              }

      -- The same for the code's number of pairs.
      module _ (pairs : ℕ) (pairs_are : pairs ≡ all_delays figures) (reported live' : ℕ) (records' : List Running) (history' cells' part' : List ℕ)
          (moved : TimedMoved sheet records history (get_or flags taken 0) cells part pairs reported live' records' history' cells' part')
          (history_kept : length history' ≡ length history) (cells_kept : length cells' ≡ length cells) where
        as_delays : TimedMoved sheet records history (get_or flags taken 0) cells part (all_delays figures) reported live' records' history' cells' part'
        as_delays = subst (λ (k : ℕ). TimedMoved sheet records history (get_or flags taken 0) cells part k reported live' records' history' cells' part') pairs_are moved

        pub flag_pairs : reported ≤ 4096
        flag_pairs = omega (arith, few_reported' reported live' records' history' cells' part' as_delays history_kept cells_kept)

        pub under_more : (report' : List ℕ) → report' ≡ take (3 * triples) report ++ part' → Under records' history' cells' report' (suc taken) (triples + reported) live'
        under_more report' pasted = under_next reported live' records' history' cells' part' as_delays history_kept cells_kept report' pasted
