-- Laws of the batch: ticks become pairs in place, and one tick more is one link more of the chain.
-- Assumes nothing.
use Prim.Native.Nat.{ℕ, suc, ◌+◌, ◌*◌, ◌-◌, ◌≤◌, ◌<◌, min}
use mathlib.Core.Path.{◌≡◌, refl, sym, ap, subst, ◌∙◌}
use mathlib.Core.Logic.{◌⊎◌, inl, inr}
use mathlib.Core.List.{List, [], ◌∷◌, ◌++◌, append_assoc, append-nil}
use native.Mathlib.Numerals.{add-one}
use native.Mathlib.Nat.{add-zero, add-suc}
use native.Mathlib.Omega.{arith}
use lib.ListN.{length, get_or, take, drop, set, length-append, length-drop, length-take, take-append-drop, drop_of_length-le}
use lib.Seq.{take_all, take-take, take_at, drop_at, drop-drop, drop-cons, drop-append-le, take-append-le, get_or-take, length-take-le, sets-eq}
use borrow.Rule.Slice.PartMut.{put_mid}
use Rattle.refusal.specs.Answer.{accepted}
use Rattle.rule.specs.declared.Figures.{Figures}
use Rattle.demand.specs.Contract.{State, state_at, Step, step_of, paired, Takes, Stepped, Chain, none, more}
use Rattle.demand.proofs.Admission.{step_admits}
use Rattle.rule.proofs.Order.{by_order}
use Rattle.cell_runs.specs.States.{taken_from}
use Rattle.cell_runs.specs.Moves.{Stands, TableOf, TickMoved}
use Rattle.cell_runs.specs.Batches.{PairsFit, PairsMoved, BatchFit, FlagsTaken}

-- ---- ticks become pairs

pub length_paired : (step : ℕ) (ticks : List ℕ) → length (paired step ticks) ≡ 2 * length ticks
length_paired step [] = refl
length_paired step (t ∷ ticks) = let e = length_paired step ticks in omega arith

-- The pairs of the ticks from tick j on are there, and one more is put before them.
module _ (report₀ report : List ℕ) (n step j : ℕ) (below : j < n) (fits : 2 * n ≤ length report₀) (same : length report ≡ length report₀)
    (front : take (2 * suc j) report ≡ take (2 * suc j) report₀) (rest : drop (2 * suc j) report ≡ paired step (drop (suc j) (take n report₀)) ++ drop (2 * n) report₀) where
  stored : (v : ℕ) → set (set report (2 * j) v) (2 * j + 1) step ≡ take (2 * j) report ++ v ∷ step ∷ drop (2 * suc j) report
  stored v =
      let e : 2 * j + 2 ≡ 2 * suc j = omega arith in
      let a : set (set report (2 * j) v) (2 * j + 1) step ≡ (take (2 * j) report ++ (v ∷ step ∷ [])) ++ drop (2 * j + 2) report =
      rw add-one (sets-eq (v ∷ step ∷ []) report (2 * j) (omega arith)) in
      a ∙ append_assoc (take (2 * j) report) (v ∷ step ∷ []) (drop (2 * j + 2) report) ∙ ap (λ (k : ℕ). take (2 * j) report ++ v ∷ step ∷ drop k report) e

  tick_is : get_or report j 0 ≡ get_or (take n report₀) j 0
  tick_is =
      sym (get_or-take (2 * suc j) report j 0 (omega arith)) ∙ ap (λ (l : List ℕ). get_or l j 0) front ∙ get_or-take (2 * suc j) report₀ j 0 (omega arith)
      ∙ sym (get_or-take n report₀ j 0 below)

  pub spread_front : take (2 * j) (set (set report (2 * j) (get_or report j 0)) (2 * j + 1) step) ≡ take (2 * j) report₀
  spread_front =
      ap (take (2 * j)) (stored (get_or report j 0))
      ∙ take_at (take (2 * j) report) (get_or report j 0 ∷ step ∷ drop (2 * suc j) report) (2 * j) (length-take-le (2 * j) report (omega arith))
      ∙ sym (take-take (2 * j) (2 * suc j) report (omega arith)) ∙ ap (take (2 * j)) front ∙ take-take (2 * j) (2 * suc j) report₀ (omega arith)

  pub spread_rest : drop (2 * j) (set (set report (2 * j) (get_or report j 0)) (2 * j + 1) step) ≡ paired step (drop j (take n report₀)) ++ drop (2 * n) report₀
  spread_rest =
      let T = take n report₀ in
      let t : length T ≡ n = length-take-le n report₀ (omega arith) in
      ap (drop (2 * j)) (stored (get_or report j 0))
      ∙ drop_at (take (2 * j) report) (get_or report j 0 ∷ step ∷ drop (2 * suc j) report) (2 * j) (length-take-le (2 * j) report (omega arith))
      ∙ ap (λ (v : ℕ). v ∷ step ∷ drop (2 * suc j) report) tick_is
      ∙ ap (λ (l : List ℕ). get_or T j 0 ∷ step ∷ l) rest
      ∙ ap (λ (l : List ℕ). paired step l ++ drop (2 * n) report₀) (sym (drop-cons T j 0 (omega arith)))

pub spread_none : (report₀ : List ℕ) (n step : ℕ) → drop (2 * n) report₀ ≡ paired step (drop n (take n report₀)) ++ drop (2 * n) report₀
spread_none report₀ n step =
    let e : drop n (take n report₀) ≡ [] = drop_of_length-le (take n report₀) {i = n} (omega (arith, length-take n report₀)) in
    rw e

-- ---- one tick of a batch

module _ (ns : List ℕ) (f : Figures) (t : ℕ) (history : List ℕ) (flag : ℕ) (cells report : List ℕ) (half : ℕ) (fit : PairsFit ns f (length history) t (length cells) (length report) half)
    (n live : ℕ) (history' cells' words : List ℕ) (m : TickMoved ns f t history flag cells (take half report) n live history' cells' words) where
  half_long : length (take half report) ≡ half
  half_long = let w = fit.twice in length-take-le half report (omega arith)

  took : Takes Stands fit.fit.state (step_of (accepted (taken_from fit.fit.state n live)) flag history cells (take half report) history' cells' words) f (taken_from fit.fit.state n live)
  took = m.takes fit.fit.state fit.fit.table_of

  pub pairs_few : n ≤ half
  pairs_few = let few = took.few in omega (arith, fit.fit.report_fits, few)

  words_long : length words ≡ half
  words_long = took.report_length ∙ half_long

  -- past its own words the step left the report as it was
  kept_rest : drop (2 * n) (words ++ drop half report) ≡ drop (2 * n) report
  kept_rest =
      let few = pairs_few in
      let long = words_long in
      let e₂ : 2 * n ≡ n + n = omega arith in
      let one : drop n (words ++ drop half report) ≡ drop n report =
      drop-append-le n words (drop half report) (omega arith)
      ∙ ap (λ (l : List ℕ). l ++ drop half report) took.report_rest
      ∙ sym (drop-append-le n (take half report) (drop half report) (let h = half_long in omega arith))
      ∙ ap (drop n) (take-append-drop half report) in
      rw e₂ (sym (drop-drop n n (words ++ drop half report)) ∙ ap (drop n) one ∙ drop-drop n n report)

  pub spread_room : 2 * n ≤ length (words ++ drop half report)
  spread_room =
      let few = pairs_few in
      let long = words_long in
      let l = length-append words (drop half report) in
      let d = length-drop half report in
      let w = fit.twice in
      omega arith

  pub pairs_moved : (report' : List ℕ) → report' ≡ paired t (take n (words ++ drop half report)) ++ drop (2 * n) (words ++ drop half report)
      → PairsMoved ns f t history flag cells report half n live history' cells' report'
  pairs_moved report' w =
      let few = pairs_few in
      let long = words_long in
      record {
        words = words;
        moved = m;
        report_is =
            w
            ∙ ap (λ (l : List ℕ). paired t l ++ drop (2 * n) (words ++ drop half report)) (take-append-le n words (drop half report) (omega arith))
            ∙ ap (λ (l : List ℕ). paired t (take n words) ++ l) kept_rest;
      }

-- ---- all ticks of a batch

-- So far: i flags are taken from tick `tick` on, and their pairs stand at the front of the report.
pub record Under (ns : List ℕ) (f : Figures) (tick live₀ : ℕ) (flags history₀ cells₀ report₀ history cells report : List ℕ) (i pairs live : ℕ) : Type 0 where
  pub some : i ≤ length flags
  pub early : tick + i ≤ 4611686018427387904
  pub inside : 2 * pairs ≤ length report₀
  pub report_length : length report ≡ length report₀
  pub history_length : length history ≡ length history₀
  pub cells_length : length cells ≡ length cells₀
  pub rest : drop (2 * pairs) report ≡ drop (2 * pairs) report₀
  pub chain : (s : State) → TableOf ns f (length history₀) tick s → s.live_count ≡ live₀
      → Chain Stands f.delay flags report₀ s history₀ cells₀ i (state_at s.body_bytes s.opened (s.next + i) live) history cells (take (2 * pairs) report)

module _ (ns : List ℕ) (f : Figures) (tick live₀ : ℕ) (flags history₀ cells₀ report₀ : List ℕ) where
  pub under_start : tick < 4611686018427387904 → Under ns f tick live₀ flags history₀ cells₀ report₀ history₀ cells₀ report₀ 0 0 live₀
  under_start word =
      record {
        some = omega arith;
        early = omega arith;
        inside = omega arith;
        report_length = refl;
        history_length = refl;
        cells_length = refl;
        rest = refl;
        chain = λ s at e.
            subst (λ (x : State). Chain Stands f.delay flags report₀ s history₀ cells₀ 0 x history₀ cells₀ [])
            (rw (add-zero s.next, ← e) refl) none;
      }

  module _ (history cells report : List ℕ) (i pairs live : ℕ) (u : Under ns f tick live₀ flags history₀ cells₀ report₀ history cells report i pairs live) where
    front_long : length (take (2 * pairs) report) ≡ 2 * pairs
    front_long = let a = u.inside in let b = u.report_length in length-take-le (2 * pairs) report (omega arith)

    -- A batch that ends here.
    abbrev Over : Type 0
    Over = (length flags ≤ i) ⊎ ((length report₀ < 2 * pairs + 2 * (f.delay + 1)) ⊎ (tick + i ≡ 4611686018427387904))

    over_as : (k x : ℕ) → k ≡ 2 * pairs → x ≡ tick + i → Over → (length flags ≤ i) ⊎ ((length report₀ < k + 2 * (f.delay + 1)) ⊎ (x ≡ 4611686018427387904))
    over_as k x a b (inl o) = inl o
    over_as k x a b (inr (inl o)) = inr (inl (omega arith))
    over_as k x a b (inr (inr o)) = inr (inr (b ∙ o))

    pub under_ends : Over → FlagsTaken ns f tick live₀ flags history₀ cells₀ report₀ i pairs live history cells report
    under_ends o =
        record {
          takes = λ s at e.
              record {
                words = take (2 * pairs) report;
                chain = u.chain s at e;
                count = front_long;
                report_is = sym (take-append-drop (2 * pairs) report) ∙ ap (λ (l : List ℕ). take (2 * pairs) report ++ l) u.rest
                    ∙ ap (λ (k : ℕ). take (2 * pairs) report ++ drop k report₀) (sym front_long);
                ended = over_as (length (take (2 * pairs) report)) (s.next + i) front_long (ap (λ (x : ℕ). x + i) at.next) o;
              };
        }

    -- All flags that can be taken are.
    pub under_all : (n : ℕ) → n ≡ min (length flags) (4611686018427387904 - tick) → n ≤ i → FlagsTaken ns f tick live₀ flags history₀ cells₀ report₀ i pairs live history cells report
    under_all n e h = under_ends (go (by_order (length flags) i))
      where
        go : (length flags ≤ i) ⊎ (i < length flags) → Over
        go (inl a) = inl a
        go (inr a) = let b = u.early in inr (inr (omega arith))

    module _ (room : 2 * pairs + 2 * (f.delay + 1) ≤ length report₀) (below : i < length flags) (timely : tick + i < 4611686018427387904)
        (part : List ℕ) (part_is : part ≡ take (length report - 2 * pairs) (drop (2 * pairs) report)) where
      part_whole : part ≡ drop (2 * pairs) report₀
      part_whole =
          part_is ∙ take_all (length report - 2 * pairs) (drop (2 * pairs) report) (let l = length-drop (2 * pairs) report in omega arith) ∙ u.rest

      part_long : length part ≡ length report₀ - 2 * pairs
      part_long = ap length part_whole ∙ length-drop (2 * pairs) report₀

      abbrev putting : List ℕ → List ℕ
      putting ys = put_mid (2 * pairs) (length report - 2 * pairs) report ys

      putting_is : (ys : List ℕ) → putting ys ≡ take (2 * pairs) report ++ ys
      putting_is ys =
          let e : drop (length report - 2 * pairs) (drop (2 * pairs) report) ≡ [] =
          drop_of_length-le (drop (2 * pairs) report) {i = length report - 2 * pairs} (let l = length-drop (2 * pairs) report in omega arith) in
          ap (λ (l : List ℕ). take (2 * pairs) report ++ (ys ++ l)) e ∙ ap (λ (l : List ℕ). take (2 * pairs) report ++ l) (append-nil ys)

      -- the state that takes the next tick
      next_table : (s : State) → TableOf ns f (length history₀) tick s → TableOf ns f (length history) (tick + i) (state_at s.body_bytes s.opened (s.next + i) live)
      next_table s at =
          record {
            formula = at.formula;
            reads = at.reads;
            prepares = at.prepares;
            opened = at.opened ∙ sym u.history_length;
            opened_high = rw u.history_length at.opened_high;
            opened_low = rw u.history_length at.opened_low;
            next = ap (λ (x : ℕ). x + i) at.next;
          }

      pub next_fits : BatchFit ns f (length history₀) tick (length cells₀) → PairsFit ns f (length history) (tick + i) (length cells) (length part) (f.delay + 1)
      next_fits fit =
          record {
            fit =
                record {
                  state = state_at fit.state.body_bytes fit.state.opened (fit.state.next + i) live;
                  table_of = next_table fit.state fit.table_of;
                  low = timely;
                  cells_fit = rw u.cells_length fit.cells_fit;
                  report_fits = omega arith;
                };
            twice = let l = part_long in omega arith;
          }

      module _ (fit : BatchFit ns f (length history₀) tick (length cells₀)) (n live' : ℕ) (history' cells' ys : List ℕ)
          (p : PairsMoved ns f (tick + i) history (get_or flags i 0) cells part (f.delay + 1) n live' history' cells' ys) where
        half_part : length (take (f.delay + 1) part) ≡ f.delay + 1
        half_part = length-take-le (f.delay + 1) part (let l = part_long in omega arith)

        abbrev s₁ : State → State
        s₁ s = state_at s.body_bytes s.opened (s.next + i) live

        abbrev k₁ : State → Step
        k₁ s = step_of (accepted (taken_from (s₁ s) n live')) (get_or flags i 0) history cells (take (f.delay + 1) part) history' cells' p.words

        taking : (s : State) → TableOf ns f (length history₀) tick s → Takes Stands (s₁ s) (k₁ s) f (taken_from (s₁ s) n live')
        taking s at = p.moved.takes (s₁ s) (next_table s at)

        link : (s : State) (at : TableOf ns f (length history₀) tick s) → Stepped Stands (s₁ s) (k₁ s) (accepted (taken_from (s₁ s) n live'))
        link s at = (
          f,
          step_admits s.body_bytes s.opened (s.next + i) (length history) (length cells) (length (take (f.delay + 1) part)) f
              (record {
                formula = at.formula;
                reads = at.reads;
                within = at.prepares.within;
                opened_high = rw at.opened at.opened_high;
                opened_low = rw at.opened at.opened_low;
                history_fits = u.history_length ∙ sym at.opened;
                cells_fit = rw u.cells_length fit.cells_fit;
                report_fits = rw half_part (omega arith);
                tick_left = rw at.next timely;
              }),
          taking s at,
        )

        any_taken : Takes Stands (s₁ fit.state) (k₁ fit.state) f (taken_from (s₁ fit.state) n live')
        any_taken = taking fit.state fit.table_of

        pub taken_words : n ≤ f.delay + 1
        taken_words = any_taken.few

        abbrev new_pairs : List ℕ
        new_pairs = paired (tick + i) (take n p.words)

        new_long : length new_pairs ≡ 2 * n
        new_long =
            let few = taken_words in
            let t : length p.words ≡ f.delay + 1 = any_taken.report_length ∙ half_part in
            let w : length (take n p.words) ≡ n = length-take-le n p.words (omega arith) in
            length_paired (tick + i) (take n p.words) ∙ ap (λ (k : ℕ). 2 * k) w

        abbrev front : List ℕ
        front = take (2 * pairs) report ++ new_pairs

        joined : putting ys ≡ front ++ drop (2 * n) part
        joined = putting_is ys ∙ ap (λ (l : List ℕ). take (2 * pairs) report ++ l) p.report_is ∙ sym (append_assoc (take (2 * pairs) report) new_pairs (drop (2 * n) part))

        joined_long : length front ≡ 2 * (pairs + n)
        joined_long = length-append (take (2 * pairs) report) new_pairs ∙ (let a = front_long in let b = new_long in omega arith)

        one_more : (s : State) → TableOf ns f (length history₀) tick s → s.live_count ≡ live₀
            → Chain Stands f.delay flags report₀ s history₀ cells₀ (suc i) (state_at s.body_bytes s.opened (s.next + suc i) live') history' cells' front
        one_more s at e =
            rw (add-suc s.next i, ← at.next)
            (more (k₁ s) (u.chain s at e) below (rw front_long room) refl refl refl
            (ap (take (f.delay + 1)) (part_whole ∙ ap (λ (k : ℕ). drop k report₀) (sym front_long))) refl (link s at))

        pub under_more : length history' ≡ length history → length cells' ≡ length cells
            → Under ns f tick live₀ flags history₀ cells₀ report₀ history' cells' (putting ys) (i + 1) (pairs + n) live'
        under_more hl cl =
            let few = taken_words in
            let a = u.inside in
            let s = u.some in
            let b = u.report_length in
            let pl = part_long in
            record {
              some = omega arith;
              early = omega arith;
              inside = omega arith;
              report_length =
                  ap length joined ∙ length-append front (drop (2 * n) part) ∙ (let j = joined_long in let l = length-drop (2 * n) part in omega arith);
              history_length = hl ∙ u.history_length;
              cells_length = cl ∙ u.cells_length;
              rest = ap (drop (2 * (pairs + n))) joined ∙ drop_at front (drop (2 * n) part) (2 * (pairs + n)) joined_long ∙ ap (drop (2 * n)) part_whole
                  ∙ drop-drop (2 * n) (2 * pairs) report₀ ∙ ap (λ (k : ℕ). drop k report₀) (let z : 2 * pairs + 2 * n ≡ 2 * (pairs + n) = omega arith in z);
              chain = λ s at e. rw (joined, take_at front (drop (2 * n) part) (2 * (pairs + n)) joined_long, add-one) (one_more s at e);
            }
