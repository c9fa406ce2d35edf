-- For all: the head cell, the walk over the positions that it leaves, and the head cell written anew.
use Prim.Native.Nat.{ℕ, suc, ◌+◌, ◌-◌, ◌≤◌, ◌<◌, ◌%◌, max}
use mathlib.Core.Path.{◌≡◌, sym, ap, ap₂, subst, ◌∙◌}
use mathlib.Core.Logic.{inl, inr, ⊎_elim}
use mathlib.Core.Bool.{cond}
use mathlib.Core.List.{List, [], ◌∷◌}
use native.Mathlib.Omega.{arith}
use native.Mathlib.Nat.{mod-eq_of_lt}
use native.Mathlib.Decide.{dec_lt}
use borrow.Author.Tests.{eq-eqb, ne_eqb}
use lib.Dec.{eqb}
use lib.ListN.{length, get_or, take, drop, length-take, get_or-append, get_or-eq_default}
use lib.Seq.{get_or-take}
use borrow.Rule.Slice.PartMut.{put_mid}
use Rattle.rule.specs.declared.Verdict.TheVariants.{True, False}
use Rattle.rule.specs.declared.Outcome.{Outcome}
use Rattle.rule.specs.declared.Outcome.TheVariants.{Decided, Open}
use Rattle.rule.specs.Formula.{Bound}
use Rattle.rule.specs.declared.Range.{Range}
use Rattle.rule.specs.Meaning.{both, range, seen, walk, outcome}
use Rattle.rule.specs.Positions.{In}
use Rattle.rule.specs.Started.{Reach}
use Rattle.rule.proofs.Horizon.{from_less, from_start}
use Rattle.rule.proofs.Every.{seen_in, seen_out}
use Rattle.rule.proofs.Window.{walk_same}
use Rattle.rule.proofs.Progress.{clash, stays, within, fresh}
use Rattle.rule.specs.Ticks.{clamped_at}
use Rattle.ranges.specs.Clamped.{clamped}
use Rattle.ranges.specs.Plans.{first_of, Plans}
use Rattle.ranges.proofs.Clamping.{clamped_at_same, clamped_same}
use Rattle.ranges.proofs.Bounds.{range_same}
use Rattle.cell_runs.specs.Tree.{Tree, range_node, formula_of}
use Rattle.cells.specs.Cells.{held, CellHolds, since, step_after}
use Rattle.cell_runs.specs.Slots.{slot}
use Rattle.cells.specs.Heads.{latest_of, leading_of}
use Rattle.cell_runs.specs.Leading.{Leading, HeadMoved}
use Rattle.cell_runs.specs.Run.{out, with_position, own_tick, RunHolds, SlotHolds, RunReady, SlotReady}
use Rattle.cell_runs.specs.Calls.{Variables, places, Advanced, PositionsWalked}
use Rattle.cell_runs.proofs.PutBack.{tail_drop, tail_take}
use Rattle.cell_runs.proofs.Walks.{walk_false}
use Rattle.cells.proofs.Heads.{leading_start, leading_kept, latest_back}
use Rattle.cell_runs.proofs.Heads.{leading_walk, leading_on, leading_at, leading_most, leading_none}

bind_tick : (env : List ℕ) (q : ℕ) → 0 < length env → own_tick (with_position env q) ≡ own_tick env
bind_tick env q h = get_or-append env (q ∷ []) 0 0 h

module _ (B₁ B₂ : Bound) (z : ℕ) (F : Tree) (e : Variables) (s t : ℕ) (run : List ℕ) (first n leading latest own : ℕ) (end : Outcome)
    (p : Plans (range B₁ B₂ (places e)) t s first n end) (eo : own ≡ own_tick (places e))
    (el : leading ≡ leading_of s t n (get_or run 0 0)) (ec : latest ≡ latest_of own s leading (get_or run 2 0)) (flags : ℕ → ℕ) where
  -- what the head says holds now, and the leading slots need no flag-node
  abbrev LeadingHolds : Type 0
  LeadingHolds = Leading (λ q. out flags t (with_position (places e) q) (max s q) F) first s leading latest
      × ((j : ℕ) → j < leading → SlotHolds flags t (places e) s F (first + j) (slot z j (drop 4 run)))

  leading_now : t ≡ s → LeadingHolds
  unfolding Leading latest_of
  leading_now h =
      let z0 : leading ≡ 0 = el ∙ leading_start s t n (get_or run 0 0) h in
      let cs : latest ≡ s = ec ∙ simp (eq-eqb leading 0 z0) in
      (rw z0 cs, λ j i. absurd (omega arith))

  leading_before : (k : ℕ) → t ≡ k + 1 → s ≤ k → RunHolds flags k (places e) s (range_node B₁ B₂ z F) run → LeadingHolds
  unfolding RunHolds SlotHolds
  leading_before k et sk rep =
      let ef : first ≡ first_of (range B₁ B₂ (places e)) = p.starts in
      let head = rep.1 in
      let few : get_or run 0 0 ≤ n = elim (dec_lt 0 (get_or run 0 0)) [
        | no i ↦ omega arith
        | yes i ↦
            let last = head.1 (get_or run 0 0 - 1) (omega arith) in
            let lk : first_of (range B₁ B₂ (places e)) + (get_or run 0 0 - 1) ≤ k = last.1 in
            let pl = p.all (first_of (range B₁ B₂ (places e)) + (get_or run 0 0 - 1)) last.0 (omega arith) in
            let hi : first_of (range B₁ B₂ (places e)) + (get_or run 0 0 - 1) < first + n = pl.1 in
            omega arith
      ] in
      let lw : leading ≡ get_or run 0 0 = el ∙ leading_kept s t n (get_or run 0 0) (λ x. omega arith) few in
      let cw : latest ≡ latest_of (own_tick (places e)) s (get_or run 0 0) (get_or run 2 0) = ec ∙ ap₂ (λ (a l : ℕ). latest_of a s l (get_or run 2 0)) eo lw in
      let kept : (j d : ℕ) → j < get_or run 0 0 → out flags k (with_position (places e) (first + j)) (max s (first + j)) F ≡ Decided True d → out flags t (with_position (places e) (first + j)) (max s (first + j)) F ≡ Decided True d =
      λ j d i x.
      let hj : first_of (range B₁ B₂ (places e)) + j ≤ k = (head.1 j i).1 in
      rw et (stays (formula_of F) flags (with_position (places e) (first + j)) (max s (first + j)) k d True (omega arith) x) in
      let ledk : Leading (λ q. out flags k (with_position (places e) q) (max s q) F) first s (get_or run 0 0) (latest_of (own_tick (places e)) s (get_or run 0 0) (get_or run 2 0)) = rw ef head.0 in
      let led : Leading (λ q. out flags t (with_position (places e) q) (max s q) F) first s (get_or run 0 0) (latest_of (own_tick (places e)) s (get_or run 0 0) (get_or run 2 0)) =
      leading_on first s (λ q. out flags k (with_position (places e) q) (max s q) F) (λ q. out flags t (with_position (places e) q) (max s q) F) (get_or run 0 0) _ kept ledk in (
        rw (lw, cw) led,
        λ j i.
            let iw : j < get_or run 0 0 = omega arith in
            let hj : first_of (range B₁ B₂ (places e)) + j ≤ k = (head.1 j iw).1 in
            let at : first + j - first_of (range B₁ B₂ (places e)) ≡ j = omega arith in
            let sl = subst (λ (x : ℕ). SlotHolds flags k (places e) s F (first + j) (slot z x (drop 4 run))) at (rep.0 (first + j) (subst (λ (x : ℕ). In (range B₁ B₂ (places e)) (x + j)) (sym ef) (head.1 j iw).0) (omega arith)) in
            let was = leading_at first s (λ q. out flags k (with_position (places e) q) (max s q) F) (get_or run 0 0) _ j iw ledk in
            let now : out flags t (with_position (places e) (first + j)) (max s (first + j)) F ≡ Decided True was.0 = kept j was.0 iw was.1 in
            (sl.0, (now ∙ sym was.1 ∙ sl.1.0, λ x. clash _ x now)),
      )

module _ (B₁ B₂ : Bound) (z : ℕ) (F : Tree) (hist : List ℕ) (b : ℕ) (e : Variables) (s t : ℕ) (run : List ℕ) where
  started_by : (flags : ℕ → ℕ) → RunReady flags t (places e) s (range_node B₁ B₂ z F) run → s ≤ t
  unfolding RunReady
  started_by flags x = ⊎_elim (λ y. omega arith) (λ y. let et : t ≡ y.0 + 1 = y.1 in let le : s ≤ y.0 = y.2 in omega arith) x

  leading_ready : (first n leading latest own : ℕ) (end : Outcome) → Plans (range B₁ B₂ (places e)) t s first n end → own ≡ own_tick (places e)
      → leading ≡ leading_of s t n (get_or run 0 0) → latest ≡ latest_of own s leading (get_or run 2 0)
      → (flags : ℕ → ℕ) → RunReady flags t (places e) s (range_node B₁ B₂ z F) run
      → Leading (λ q. out flags t (with_position (places e) q) (max s q) F) first s leading latest × ((j : ℕ) → j < leading → SlotHolds flags t (places e) s F (first + j) (slot z j (drop 4 run)))
  unfolding RunReady
  leading_ready first n leading latest own end p eo el ec flags ready = ⊎_elim
      (λ y. leading_now B₁ B₂ z F e s t run first n leading latest own end p eo el ec flags y)
      (λ y. leading_before B₁ B₂ z F e s t run first n leading latest own end p eo el ec flags y.0 y.1 y.2 y.3.1)
      ready

  slots_ready : (first n : ℕ) (end : Outcome) → Plans (range B₁ B₂ (places e)) t s first n end → (flags : ℕ → ℕ) → RunReady flags t (places e) s (range_node B₁ B₂ z F) run
      → (j : ℕ) → j < n → SlotReady flags t (places e) s F (first + j) (slot z j (drop 4 run))
  unfolding RunReady SlotReady RunHolds SlotHolds
  slots_ready first n end p flags ready j h =
      let ef : first ≡ first_of (range B₁ B₂ (places e)) = p.starts in
      let at : first + j - first_of (range B₁ B₂ (places e)) ≡ j = omega arith in
      ⊎_elim (λ y. inl y) (λ y. inr (
        y.0,
        y.1,
        y.2,
        λ g.
            subst (λ (i : ℕ). SlotHolds flags y.0 (places e) s F (first + j) (slot z i (drop 4 run))) at (y.3.1.0 (first + j) (p.inside j h) g),
      )) ready

  -- the head cell that was written
  head_right : (first n leading latest own : ℕ) (end : Outcome) (mid run' : List ℕ) → Plans (range B₁ B₂ (places e)) t s first n end → own ≡ own_tick (places e) → 0 < length (places e)
      → t < own_tick (places e) + 4294967296 → t < 4611686018427387904 → n < 4294967296 → s ≤ t → latest ≡ latest_of own s leading (get_or run 2 0)
      → (c : HeadMoved own z n mid leading latest run') → (flags : ℕ → ℕ)
      → Leading (λ q. out flags t (with_position (places e) q) (max s q) F) first s leading latest
      → ((j : ℕ) → j < n → SlotHolds flags t (places e) s F (first + j) (slot z j (drop 4 mid)))
      → Leading (λ q. out flags t (with_position (places e) q) (max s q) F) first s (get_or run' 0 0) (latest_of (own_tick (places e)) s (get_or run' 0 0) (get_or run' 2 0))
      × ((j : ℕ) → j < get_or run' 0 0 → In (range B₁ B₂ (places e)) (first + j) × (first + j ≤ t))
  unfolding SlotHolds held latest_of
  head_right first n leading latest own end mid run' p eo some near timely small st ec c flags led slots =
      let few : n ≤ suc t - first = p.few in
      let high : c.leading' ≤ n = c.moved.high in
      let low : leading ≤ c.leading' = c.moved.low in
      let w0 : get_or run' 0 0 ≡ c.leading' = c.leading_word ∙ mod-eq_of_lt (omega arith) in
      let w2 : get_or run' 2 0 ≡ since (own_tick (places e)) c.latest' = c.latest_word ∙ ap (λ (a : ℕ). since a c.latest') eo in
      let led' : Leading (λ q. out flags t (with_position (places e) q) (max s q) F) first s c.leading' c.latest' =
      c.moved.true_so_far (λ q. out flags t (with_position (places e) q) (max s q) F) first s
      (λ j g h x. (slots j h).1.0 ∙ ap (λ (a : ℕ). cond (eqb a 1) (Decided True (step_after (own_tick (with_position (places e) (first + j))) (get_or (slot z j (drop 4 mid)) 2 0))) (cond (eqb a 2) (Decided False (step_after (own_tick (with_position (places e) (first + j))) (get_or (slot z j (drop 4 mid)) 2 0))) Open)) x
      ∙ ap (λ (a : ℕ). Decided True (step_after a (get_or (slot z j (drop 4 mid)) 2 0))) (bind_tick (places e) (first + j) some ∙ sym eo)) led in
      let top : c.latest' ≤ t = leading_most first s (λ q. out flags t (with_position (places e) q) (max s q) F) t c.leading' c.latest' st
      (λ j d i x. within (formula_of F) flags (with_position (places e) (first + j)) (max s (first + j)) t d True (omega arith) x) led' in
      let above : (c.leading' ≡ 0 → ⊥) → own_tick (places e) ≤ c.latest' = λ nz. ⊎_elim
      (λ y.
      let e1 : c.leading' ≡ leading = y.0 in
      let e2 : c.latest' ≡ latest = y.1 in
      let e3 : latest ≡ step_after own (get_or run 2 0) = ec ∙ simp (ne_eqb leading 0 (λ x. nz (e1 ∙ x))) in
      omega arith)
      (λ y. let z : step_after own 0 ≤ c.latest' = y in omega arith) c.moved.after_tick in
      let back : c.latest' ≡ latest_of (own_tick (places e)) s (get_or run' 0 0) (get_or run' 2 0) =
      latest_back (own_tick (places e)) s t c.leading' c.latest' (get_or run' 0 0) (get_or run' 2 0) w0 w2 (λ x. leading_none first s _ c.leading' c.latest' x led') above top near timely in (
        subst (Leading (λ q. out flags t (with_position (places e) q) (max s q) F) first s (get_or run' 0 0)) back
            (subst (λ (l : ℕ). Leading (λ q. out flags t (with_position (places e) q) (max s q) F) first s l c.latest') (sym w0) led'),
        λ j i. (p.inside j (omega arith), omega arith),
      )

  -- the walk stopped at a false position: the range was not decided before, so it is false now
  stopped : (flags : ℕ → ℕ) → RunReady flags t (places e) s (range_node B₁ B₂ z F) run → (a d latest : ℕ) (r o : Outcome)
      → out flags t (places e) s (range_node B₁ B₂ z F) ≡ Decided False d → d ≤ a → a ≤ t → r ≡ Decided False a → o ≡ both (Decided True latest) r
      → o ≡ out flags t (places e) s (range_node B₁ B₂ z F)
  unfolding RunReady both
  stopped flags ready a d latest r o ed da at er eo =
      let now : t ≡ d = fresh (formula_of (range_node B₁ B₂ z F)) flags (places e) s t d False (⊎_elim (λ y. inl y) (λ y. inr (y.0, y.1, y.2, y.3.0)) ready) ed in
      let same : a ≡ d = omega arith in
      eo ∙ ap (both (Decided True latest)) er ∙ ap (Decided False) same ∙ sym ed

  -- the positions of the plan are those of the range up to t
  range_of' : (first n leading latest own : ℕ) (end r o : Outcome) (rest ys mid run' : List ℕ) → Plans (range B₁ B₂ (places e)) t s first n end
      → own ≡ own_tick (places e) → 0 < length (places e) → t < own_tick (places e) + 4294967296 → t < 4611686018427387904 → n < 4294967296
      → leading ≡ leading_of s t n (get_or run 0 0) → latest ≡ latest_of own s leading (get_or run 2 0)
      → rest ≡ drop 4 run → drop 4 mid ≡ ys → PositionsWalked F hist b e s t first leading n end z rest r ys
      → HeadMoved own z n mid leading latest run' → o ≡ both (Decided True latest) r
      → Advanced (range_node B₁ B₂ z F) hist b e s t run o run'
  unfolding outcome RunHolds SlotHolds Reach formula_of
  range_of' first n leading latest own end r o rest ys mid run' p eo some near timely small el ec er ey walked c eout = record {
    gives = λ flags H hon reach ready.
        let few : n ≤ suc t - first = p.few in
        let st : s ≤ t = started_by flags ready in
        let ef : first ≡ first_of (range B₁ B₂ (places e)) = p.starts in
        let op = leading_ready first n leading latest own end p eo el ec flags ready in
        let whole : walk (λ q. out flags t (with_position (places e) q) (max s q) F) n first end ≡ out flags t (places e) s (range_node B₁ B₂ z F) =
        walk_same (λ q. out flags t (with_position (places e) q) (max s q) F) (λ q. seen t q (out flags t (with_position (places e) q) (max s q) F)) n first end (λ i g l. sym (seen_in t i _ (omega arith)))
        ∙ sym (p.same (λ q. seen t q (out flags t (with_position (places e) q) (max s q) F)) (λ q g. seen_out t q _ g)) in
        ⊎_elim
        (λ x.
        let slots : (j : ℕ) → j < n → SlotHolds flags t (places e) s F (first + j) (slot z j ys) = λ j h. elim (dec_lt j leading) [
          | yes i ↦ subst (SlotHolds flags t (places e) s F (first + j)) (sym (walked.gives.0 j i ∙ ap (slot z j) er)) (op.1 j i)
          | no i ↦ x.1.1 j (omega arith) h
        ] in
        let head = head_right first n leading latest own end mid run' p eo some near timely small st ec c flags op.0 (λ j h. subst (λ (l : List ℕ). SlotHolds flags t (places e) s F (first + j) (slot z j l)) (sym ey) (slots j h)) in
        let tail : drop 4 run' ≡ ys = c.slots_kept ∙ ey in (
          eout
              ∙ sym (leading_walk first s (λ q. out flags t (with_position (places e) q) (max s q) F) (λ q. from_less (out flags t (with_position (places e) q) (max s q) F) (omega arith) (from_start (formula_of F) flags t (with_position (places e) q) (max s q))) leading latest r op.0 (x.1.0 p.late))
              ∙ sym x.0
              ∙ whole,
          λ y. (
            (λ q h g.
                let in_plan = p.all q h g in
                let lo : first ≤ q = in_plan.0 in
                let hi : q < first + n = in_plan.1 in
                let eq : first + (q - first) ≡ q = omega arith in
                let ex : q - first_of (range B₁ B₂ (places e)) ≡ q - first = ap (λ (i : ℕ). q - i) (sym ef) in
                rw (tail, ex) (subst (λ (i : ℕ). (get_or (slot z (q - first) ys) 1 0 % 256 ≡ flags i)
                × CellHolds (own_tick (with_position (places e) i)) 0 (out flags t (with_position (places e) i) (max s i) F)
                (RunHolds flags t (with_position (places e) i) (max s i) F (drop 4 (slot z (q - first) ys))) (slot z (q - first) ys)) eq (slots (q - first) (omega arith)))),
            rw (← ef) head,
          ),
        ))
        (λ x.
        let last = walk_false (λ q. out flags t (with_position (places e) q) (max s q) F) x.0 first x.1 in
        let ed : out flags t (places e) s (range_node B₁ B₂ z F) ≡ Decided False last.0 = sym whole ∙ x.4 ∙ ap (walk (λ q. out flags t (with_position (places e) q) (max s q) F) x.0 first) x.2 ∙ last.1 in
        (stopped flags ready x.1 last.0 latest r o ed last.2 x.3 x.2 eout, λ y. clash (out flags t (places e) s (range_node B₁ B₂ z F)) y ed))
        (walked.gives.1 flags H hon (λ j g h. reach (first + j) (p.inside j h)) (λ j g h. subst (λ (l : List ℕ). SlotReady flags t (places e) s F (first + j) (slot z j l)) (sym er) (slots_ready first n end p flags ready j h)));
  }

module _ {B₁ B₂ : Bound} {z : ℕ} {F : Tree} {hist : List ℕ} {b : ℕ} {e : Variables} {s t : ℕ} {run : List ℕ} where
  pub range_of : (first n leading latest own z' : ℕ) (end r o : Outcome) (ys mid run' : List ℕ) → z' ≡ z → 4 ≤ length run → Plans (range B₁ B₂ (places e)) t s first n end
      → own ≡ own_tick (places e) → 0 < length (places e) → t < own_tick (places e) + 4294967296 → t < 4611686018427387904 → n < 4294967296
      → leading ≡ leading_of s t n (get_or run 0 0) → latest ≡ latest_of own s leading (get_or run 2 0)
      → PositionsWalked F hist b e s t first leading n end z' (take (length run - 4) (drop 4 run)) r ys → mid ≡ put_mid 4 (length run - 4) run ys
      → HeadMoved own z' n mid leading latest run' → o ≡ both (Decided True latest) r
      → Advanced (range_node B₁ B₂ z F) hist b e s t run o run'
  range_of first n leading latest own z' end r o ys mid run' ez room p eo some near timely small el ec walked ep c eout =
      range_of' B₁ B₂ z F hist b e s t run first n leading latest own end r o (take (length run - 4) (drop 4 run)) ys mid run' p eo some near timely small el ec
      (tail_take run) (ap (drop 4) ep ∙ tail_drop run ys room)
      (subst (λ (i : ℕ). PositionsWalked F hist b e s t first leading n end i (take (length run - 4) (drop 4 run)) r ys) ez walked)
      (subst (λ (i : ℕ). HeadMoved own i n mid leading latest run') ez c) eout

-- ---- the plan of the code is one for the variables that are bound

-- a variable that is not bound has position 0 in both
bound_alone : (ps : List ℕ) (n : ℕ) → ((v : ℕ) → n ≤ v → get_or ps v 0 ≡ 0) → (v : ℕ) → get_or ps v 0 ≡ get_or (take n ps) v 0
bound_alone ps n h v = elim (dec_lt v n) [
  | yes l ↦ sym (get_or-take n ps v 0 l)
  | no l ↦
      let e : length (take n ps) ≤ v = simp length-take (omega arith) in
      h v (omega arith) ∙ sym (get_or-eq_default (take n ps) 0 e)
]

pub plan_here : (B₁ B₂ : Bound) (e : Variables) (t s first n : ℕ) (end : Outcome) (r : Range) → t < 4611686018427387904 → ((v : ℕ) → get_or e.pos v 0 ≤ t)
    → ((v : ℕ) → e.known ≤ v → get_or e.pos v 0 ≡ 0) → r ≡ range B₁ B₂ (clamped e.pos) → Plans r (clamped_at t) s first n end
    → Plans (range B₁ B₂ (places e)) t s first n end
plan_here B₁ B₂ e t s first n end r low past unbound er p =
    let same : clamped e.pos ≡ e.pos = clamped_same e.pos (λ v. omega (arith, past v)) in
    let eq : r ≡ range B₁ B₂ (places e) = er ∙ ap (range B₁ B₂) same ∙ range_same B₁ B₂ e.pos (places e) (bound_alone e.pos e.known unbound) in
    let now : clamped_at t ≡ t = clamped_at_same (omega arith) in
    subst (λ (x : Range). Plans x t s first n end) eq (subst (λ (u : ℕ). Plans r u s first n end) now p)
