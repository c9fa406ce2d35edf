-- From a rule's tree to the rule: what moving its ticks gives is 01's report, 01's live count, and cells that stand for the stream.
use Prim.Native.Nat.{ℕ, suc, ◌+◌, ◌*◌, ◌-◌, ◌/◌, ◌%◌, ◌≤◌, ◌<◌}
use mathlib.Core.Path.{◌≡◌, refl, sym, ap, ap₂, subst, ◌∙◌}
use mathlib.Core.List.{List, [], ◌∷◌, ◌++◌}
use native.Mathlib.Omega.{arith}
use native.Mathlib.Numerals.{add-one}
use native.Mathlib.Nat.{mod-lt, mul_comm, mul_assoc, div-eq_of_eq-mul_right}
use lib.ListN.{length, take, drop, set}
use lib.Seq.{take_at}
use Rattle.rule.specs.declared.Size.{Size}
use Rattle.rule.specs.declared.Figures.{Figures}
use Rattle.rule.specs.Formula.{Formula, formulas}
use Rattle.rule.specs.Meaning.{rule}
use Rattle.rule.specs.Body.{body}
use Rattle.rule.specs.Figures.{at_tick, cells, figures}
use Rattle.rule.specs.Steps.{false_at, is_open, passing, report, live}
use Rattle.rule.specs.Positions.{Within}
use Rattle.rule.specs.Started.{Reach}
use Rattle.rule.proofs.Reach.{rule_reach}
use Rattle.rule.proofs.Recent.{report_recent, live_recent}
use Rattle.refusal.specs.Answer.{accepted}
use Rattle.rule.proofs.Reading.{body_scoped}
use Rattle.demand.specs.Contract.{State, next_state, HistoryHolds}
use Rattle.cell_runs.specs.Tree.{Tree, formula_of, tree_at, words, Formed}
use Rattle.cell_runs.specs.Slots.{slot}
use Rattle.cell_runs.specs.Sized.{sized, RightSizes}
use Rattle.cell_runs.specs.Instances.{InstanceHolds, InstancesHold, TicksFit, TicksMoved, Spared}
use Rattle.cell_runs.specs.Moves.{Stands, Prepares, TableOf, TickFit, TickMoved}
use Rattle.cell_runs.proofs.Slots.{slot_before, slot_front}
use Rattle.rule.proofs.Limits.{WithinLimits, within_limits}
use Rattle.cell_runs.proofs.Sizes.{tree_formula, tree_sizes, words_sized, formed_sized}
use Rattle.cell_runs.proofs.SizedTrees.{words_right, formed_right, instances_right}

-- Before tick 0 the cells stand for every stream.
pub stands_at_start : (s : State) (flags : ℕ → ℕ) (cells : List ℕ) → s.next ≡ 0 → Stands s cells flags
unfolding Stands InstancesHold
stands_at_start s flags cells z F f r w k p e h g = absurd (omega arith)

-- ---- the slots of a table, or of the part that is needed

module _ (T : Tree) (n c : ℕ) (flags : ℕ → ℕ) (t : ℕ) (table : List ℕ) (some : 0 < n) (room : n * c ≤ length table) where
  same_slot : (p : ℕ) → slot c (p % n) (take (n * c) table) ≡ slot c (p % n) table
  same_slot p = slot_front c table (n * c) (p % n) room (slot_before c (p % n) n (mod-lt p some))

  stand_whole : InstancesHold T n c flags t (take (n * c) table) → InstancesHold T n c flags t table
  unfolding InstancesHold
  stand_whole s k p e h g = subst (InstanceHolds flags T k p) (same_slot p) (s k p e h g)

  stand_needed : InstancesHold T n c flags t table → InstancesHold T n c flags t (take (n * c) table)
  unfolding InstancesHold
  stand_needed s k p e h g = subst (InstanceHolds flags T k p) (sym (same_slot p)) (s k p e h g)

-- ---- a rule within the limits

module _ (F : Formula) (f : Figures) (ns : List ℕ) (p : Prepares F f ns) where
  limits : WithinLimits F f
  limits = within_limits F f p.within

  -- the table's tree, and the rule's tree that it stands for
  formula_is : formula_of (tree_at 64 ns 0) ≡ F
  formula_is = tree_formula F 64 ns 0 0 (12 * formulas F) (omega (arith, p.stands.room)) p.stands.holds

  right : RightSizes (at_tick ∷ []) (tree_at 64 ns 0)
  right = tree_sizes F 64 ns (at_tick ∷ []) 0 0 (12 * formulas F) (omega (arith, p.stands.room)) p.stands.holds p.sizes

  tree_is : sized (formula_of (tree_at 64 ns 0)) (at_tick ∷ []) ≡ sized F (at_tick ∷ [])
  tree_is = ap (λ (G : Formula). sized G (at_tick ∷ [])) formula_is

  -- the words of one instance, and of all
  words_are : 4 + words (at_tick ∷ []) (sized F (at_tick ∷ [])) ≡ 4 * (1 + limits.own)
  words_are =
      let s : limits.own ≤ 4095 = limits.small in
      let w : words (at_tick ∷ []) (sized F (at_tick ∷ [])) ≡ 4 * limits.own = words_sized F (at_tick ∷ []) limits.own limits.own_is (omega arith) in
      omega arith

  all_words : (f.delay + 1) * (4 + words (at_tick ∷ []) (sized F (at_tick ∷ []))) ≡ 4 * f.cells
  all_words =
      let n : ℕ = f.delay + 1 in
      let k : ℕ = 1 + limits.own in
      ap (λ (x : ℕ). n * x) words_are ∙ sym (mul_assoc n 4 k) ∙ ap (λ (x : ℕ). x * k) (mul_comm n 4) ∙ mul_assoc 4 n k ∙ ap (λ (x : ℕ). 4 * x) limits.needed_is

  pub slot_words : f.cells / (f.delay + 1) * 4 ≡ 4 + words (at_tick ∷ []) (sized F (at_tick ∷ []))
  slot_words =
      let q : f.cells / (f.delay + 1) ≡ 1 + limits.own = div-eq_of_eq-mul_right (omega arith) (sym limits.needed_is) in
      let w : 4 + words (at_tick ∷ []) (sized F (at_tick ∷ [])) ≡ 4 * (1 + limits.own) = words_are in
      omega arith

  rule_reaches : (flags : ℕ → ℕ) (q : ℕ) → Reach f.history flags (q ∷ []) q (formula_of (tree_at 64 ns 0))
  rule_reaches flags q =
      subst (Reach f.history flags (q ∷ []) q) (sym formula_is)
      (rule_reach f.history F (subst (λ (x : Size). Within x f.history) (sym limits.history_is) (omega arith)) flags q)

  -- the ticks older than the last delay + 1 were decided before
  report_is : (flags : ℕ → ℕ) (t low : ℕ) → low ≡ t + 1 - (f.delay + 1)
      → passing (false_at t) (rule (formula_of (tree_at 64 ns 0)) flags t) (t + 1 - low) low ≡ report F flags t
  report_is flags t low e =
      let a : t + 1 - low ≡ suc t - (t - f.delay) = omega arith in
      let b : low ≡ t - f.delay = omega arith in
      ap (λ (G : Formula). passing (false_at t) (rule G flags t) (t + 1 - low) low) formula_is
      ∙ ap₂ (passing (false_at t) (rule F flags t)) a b ∙ sym (report_recent F f.delay limits.delay_is flags t)

  live_is : (flags : ℕ → ℕ) (t low : ℕ) → low ≡ t + 1 - (f.delay + 1)
      → passing is_open (rule (formula_of (tree_at 64 ns 0)) flags t) (t + 1 - low) low ≡ live F flags t
  live_is flags t low e =
      let a : t + 1 - low ≡ suc t - (t - f.delay) = omega arith in
      let b : low ≡ t - f.delay = omega arith in
      ap (λ (G : Formula). passing is_open (rule G flags t) (t + 1 - low) low) formula_is
      ∙ ap₂ (passing is_open (rule F flags t)) a b ∙ sym (live_recent F f.delay limits.delay_is flags t)

-- ---- for the function

-- The rule of a state, in its table.
module _ (ns : List ℕ) (f : Figures) (L t : ℕ) (s : State) (at : TableOf ns f L t s) where
  prepared : (F : Formula) → body s.body_bytes ≡ accepted F → Prepares F f ns
  prepared F r = let same : at.formula ≡ F = cc at.reads in subst (λ (G : Formula). Prepares G f ns) same at.prepares

  pub table_short : (f.delay ≤ 255) × (f.cells ≤ 4096)
  table_short = let l = limits at.formula f ns at.prepares in (l.short, l.few)

  -- the cells of a state whose figures are known
  stands_as : (cells : List ℕ) (flags : ℕ → ℕ) (F : Formula) (r : body s.body_bytes ≡ accepted F) → Stands s cells flags
      → InstancesHold (sized F (at_tick ∷ [])) (f.delay + 1) (4 + words (at_tick ∷ []) (sized F (at_tick ∷ []))) flags t cells
  unfolding Stands
  stands_as cells flags F r h =
      subst (λ (u : ℕ). InstancesHold (sized F (at_tick ∷ [])) (f.delay + 1) (4 + words (at_tick ∷ []) (sized F (at_tick ∷ []))) flags u cells) at.next (h F f r (prepared F r).within)

  stands_next : (live : ℕ) (cells : List ℕ) (flags : ℕ → ℕ) (F : Formula) (r : body s.body_bytes ≡ accepted F)
      → InstancesHold (sized F (at_tick ∷ [])) (f.delay + 1) (4 + words (at_tick ∷ []) (sized F (at_tick ∷ []))) flags (suc t) cells → Stands (next_state s live) cells flags
  unfolding Stands
  stands_next live cells flags F r h G g i w =
      let same : F ≡ G = cc in
      let same_figures : f ≡ g = cc ((prepared F r).within, ap figures same) in
      rw (← same, ← same_figures, at.next) h

module _ (ns : List ℕ) (f : Figures) (c : ℕ) (hist : List ℕ) (b t low : ℕ) (table report₀ : List ℕ) (reported live_count : ℕ) (table' report' : List ℕ)
    (ec : c ≡ f.cells / (f.delay + 1) * 4) (el : low ≡ t + 1 - (f.delay + 1)) (room : 4 * f.cells ≤ length table) (long : length table' ≡ length table)
    (moved : TicksMoved (tree_at 64 ns 0) (f.delay + 1) c hist b t low table report₀ reported live_count table' report') where
  rule_means : (F : Formula) → Prepares F f ns → (flags : ℕ → ℕ) → flags t ≡ b → HistoryHolds flags (length hist) f.history t hist
      → InstancesHold (sized F (at_tick ∷ [])) (f.delay + 1) (4 + words (at_tick ∷ []) (sized F (at_tick ∷ []))) flags t (take (4 * f.cells) table)
      → (take reported report' ≡ report F flags t) × (reported ≡ length (report F flags t)) × (live_count ≡ length (live F flags t))
      × InstancesHold (sized F (at_tick ∷ [])) (f.delay + 1) (4 + words (at_tick ∷ []) (sized F (at_tick ∷ []))) flags (suc t) (take (4 * f.cells) table')
  rule_means F p flags eb kept stand =
      let T : Tree = tree_at 64 ns 0 in
      let w : ℕ = 4 + words (at_tick ∷ []) (sized F (at_tick ∷ [])) in
      let n : ℕ = f.delay + 1 in
      let whole : n * w ≡ 4 * f.cells = all_words F f ns p in
      let moved' : TicksMoved T n w hist b t low table report₀ reported live_count table' report' =
      subst (λ (x : ℕ). TicksMoved T n x hist b t low table report₀ reported live_count table' report') (ec ∙ slot_words F f ns p) moved in
      let stand' : InstancesHold T n w flags t (take (n * w) table) = (instances_right T (right F f ns p) n w flags t (take (n * w) table)).1 (rw (tree_is F f ns p, whole) stand) in
      let x = moved'.gives flags f.history (record { history = kept; current = sym eb }) (rule_reaches F f ns p flags) (stand_whole T n w flags t table (omega arith) (omega arith) stand') in
      let er : passing (false_at t) (rule (formula_of T) flags t) (t + 1 - low) low ≡ report F flags t = report_is F f ns p flags t low el in
      let count : reported ≡ length (report F flags t) = x.0 ∙ ap length er in
      let next : InstancesHold T n w flags (t + 1) (take (n * w) table') = stand_needed T n w flags (t + 1) table' (omega arith) (omega arith) x.1.1.1 in
      let next' : InstancesHold (sized F (at_tick ∷ [])) n w flags (t + 1) (take (n * w) table') =
      subst (λ (U : Tree). InstancesHold U n w flags (t + 1) (take (n * w) table')) (tree_is F f ns p) ((instances_right T (right F f ns p) n w flags (t + 1) (take (n * w) table')).0 next) in (
        ap (take reported) (x.1.0 ∙ ap (λ (l : List ℕ). l ++ drop reported report₀) er) ∙ take_at (report F flags t) (drop reported report₀) reported (sym count),
        count,
        x.1.1.0 ∙ ap length (live_is F f ns p flags t low el),
        rw (← add-one t, ← whole) next',
      )

  -- the tick is taken, of every state whose rule stands in the table
  pub rule_takes : length report' ≡ length report₀ → Spared (f.delay + 1) ((f.delay + 1) * c) table report₀ reported live_count table' report'
      → TickMoved ns f t hist b table report₀ reported live_count (set hist (t % length hist) b) table' report'
  rule_takes same spared =
      record {
        takes = λ s at.
            let whole : (f.delay + 1) * c ≡ 4 * f.cells =
            ap (λ (x : ℕ). (f.delay + 1) * x) (ec ∙ slot_words at.formula f ns at.prepares) ∙ all_words at.formula f ns at.prepares in
            record {
              state = refl;
              history_is = rw (at.next, at.opened) refl;
              cells_length = long;
              cells_rest = rw (← whole) spared.table_rest;
              few = spared.few;
              few_live = spared.few_live;
              report_length = same;
              report_rest = spared.report_rest;
              means = λ F r flags here kept stands.
                  let m = rule_means F (prepared ns f (length hist) t s at F r) flags (rw (← at.next) here)
                  (rw (← at.opened, ← at.next) kept) (stands_as ns f (length hist) t s at (take (4 * f.cells) table) flags F r stands) in
                  record {
                    words = rw at.next m.0;
                    count = rw at.next m.1;
                    open_ticks = rw at.next m.2;
                    stands = stands_next ns f (length hist) t s at live_count (take (4 * f.cells) table') flags F r m.3;
                  };
            };
      }

module _ (ns : List ℕ) (f : Figures) (L t cells words' : ℕ) (i : TickFit ns f L t cells words') where
  abbrev F : Formula
  F = i.table_of.formula

  abbrev p : Prepares F f ns
  p = i.table_of.prepares

  pub rule_fits : TicksFit (tree_at 64 ns 0) t (f.delay + 1) (f.cells / (f.delay + 1) * 4) cells words'
  rule_fits =
      let T : Tree = tree_at 64 ns 0 in
      let T' : Tree = sized F (at_tick ∷ []) in
      let room : 4 * f.cells ≤ cells = i.cells_fit in
      let same : words (at_tick ∷ []) T ≡ words (at_tick ∷ []) T' = words_right T (at_tick ∷ []) (right F f ns p) ∙ ap (words (at_tick ∷ [])) (tree_is F f ns p) in
      let sw : f.cells / (f.delay + 1) * 4 ≡ 4 + words (at_tick ∷ []) T' = slot_words F f ns p in
      let whole : (f.delay + 1) * (4 + words (at_tick ∷ []) T') ≡ 4 * f.cells = all_words F f ns p in
      let small : (limits F f ns p).own ≤ 4095 = (limits F f ns p).small in
      let scoped = body_scoped i.state.body_bytes F i.table_of.reads in
      rw sw (record {
        formed = formed_right T (at_tick ∷ []) (right F f ns p) (subst (Formed (at_tick ∷ [])) (sym (tree_is F f ns p))
            (formed_sized F ns (at_tick ∷ []) 0 0 (12 * formulas F) p.stands.holds refl scoped (limits F f ns p).own (limits F f ns p).own_is (omega arith)));
        room = omega arith;
        low = i.low;
        some = omega arith;
        few = omega (arith, (limits F f ns p).short);
        table = omega arith;
        report = i.report_fits;
      })
