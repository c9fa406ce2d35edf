-- Then: the first part, and the second in the same words from the first one's step on.
use Prim.Native.Nat.{ℕ, ◌+◌, ◌-◌, ◌≤◌}
use mathlib.Core.Path.{◌≡◌, sym, ap, subst, ◌∙◌}
use mathlib.Core.Logic.{inl, inr, ⊎_elim}
use mathlib.Core.List.{List}
use native.Mathlib.Omega.{arith}
use lib.ListN.{length, get_or, drop}
use borrow.Rule.Slice.PartMut.{put_mid}
use Rattle.rule.specs.declared.Verdict.{Verdict}
use Rattle.rule.specs.declared.Verdict.TheVariants.{True, False}
use Rattle.rule.specs.declared.Outcome.{Outcome}
use Rattle.rule.specs.declared.Outcome.TheVariants.{Decided, Open}
use Rattle.rule.specs.Meaning.{after, outcome}
use Rattle.rule.specs.Started.{Before, Reach}
use Rattle.rule.proofs.Progress.{clash, within}
use Rattle.cell_runs.specs.Tree.{Tree, then_node, formula_of}
use Rattle.cells.specs.Cells.{CellHolds}
use Rattle.cell_runs.specs.Slots.{window}
use Rattle.cell_runs.specs.Run.{out, own_tick, RunHolds, RunReady}
use Rattle.cell_runs.specs.Calls.{Variables, places, Advanced, DecidedNow, PartAdvanced}
use Rattle.cell_runs.proofs.PutBack.{tail_drop, tail_head, tail_take, rest_take}

after_open : (o : Outcome) (g : ℕ → Outcome) (d : ℕ) → o ≡ Decided True d → after o g ≡ Open → g d ≡ Open
unfolding after
after_open o g d e q = rw e at q

module _ (F G : Tree) (hist : List ℕ) (b : ℕ) (e : Variables) (s t : ℕ) (run : List ℕ) where
  then_before : (flags : ℕ → ℕ) → RunReady flags t (places e) s (then_node F G) run
      → Before s t (λ k. CellHolds (own_tick (places e)) 0 (out flags k (places e) s F) (RunHolds flags k (places e) s F (window 4 (length run) run)) run)
  unfolding RunReady RunHolds
  then_before flags x = ⊎_elim (λ y. inl y) (λ y. inr (y.0, y.1, y.2, rw (tail_take run) y.3.1.0)) x

  then_held : (flags : ℕ → ℕ) (run' : List ℕ) → length run' ≡ length run
      → CellHolds (own_tick (places e)) 0 (out flags t (places e) s F) (RunHolds flags t (places e) s F (window 4 (length run) run')) run'
      → CellHolds (own_tick (places e)) 0 (out flags t (places e) s F) (RunHolds flags t (places e) s F (drop 4 run')) run'
  then_held flags run' l x = (x.0, λ o. subst (RunHolds flags t (places e) s F) (rest_take 4 (length run) run' (sym l)) (x.1 o))

  pub then_open : (run' : List ℕ) (o : Outcome) → PartAdvanced F hist b e s t 0 4 (length run) run o run' → o ≡ Open → Advanced (then_node F G) hist b e s t run o run'
  unfolding outcome after RunHolds Reach formula_of
  then_open run' o fst eo = record {
    gives = λ flags H hon reach ready.
        let f = fst.gives.1 flags H hon reach.0 (then_before flags ready) in
        let es : o ≡ Open = eo in
        let ef : out flags t (places e) s F ≡ Open = sym f.0 ∙ es in (
          es ∙ ap (λ (x : Outcome). after x (λ d. out flags t (places e) d G)) (sym ef),
          λ w. (then_held flags run' fst.gives.0.long f.1.0, λ d q. clash (out flags t (places e) s F) ef q),
        );
  }

  pub then_false : (run' : List ℕ) (o : Outcome) (v : Verdict) (d : ℕ) → PartAdvanced F hist b e s t 0 4 (length run) run o run' → o ≡ Decided v d → v ≡ False → Advanced (then_node F G) hist b e s t run (Decided v d) run'
  unfolding outcome after RunHolds Reach formula_of
  then_false run' o v d fst eo ev = record {
    gives = λ flags H hon reach ready.
        let f = fst.gives.1 flags H hon reach.0 (then_before flags ready) in
        let e' : o ≡ Decided False d = eo ∙ ap (λ (x : Verdict). Decided x d) ev in
        let ef : out flags t (places e) s F ≡ Decided False d = sym f.0 ∙ e' in (
          ap (λ (x : Verdict). Decided x d) ev ∙ ap (λ (x : Outcome). after x (λ d. out flags t (places e) d G)) (sym ef),
          λ w. (then_held flags run' fst.gives.0.long f.1.0, λ d' q. let y : ◌≡◌ {A = ℕ} 0 1 = cc in absurd (omega arith)),
        );
  }

  begun : (flags : ℕ → ℕ) → RunReady flags t (places e) s (then_node F G) run → s ≤ t
  unfolding RunReady
  begun flags x = ⊎_elim (λ y. omega arith) (λ y. let et : t ≡ y.0 + 1 = y.1 in let le : s ≤ y.0 = y.2 in omega arith) x

  -- G starts now, or goes on
  then_ready : (mid : List ℕ) (o : Outcome) (d : ℕ) → o ≡ Decided True d → (flags : ℕ → ℕ) → RunReady flags t (places e) s (then_node F G) run
      → DecidedNow (own_tick (places e)) s t 0 run o mid
      → RunReady flags t (places e) d G (drop 4 mid)
  unfolding RunReady RunHolds outcome formula_of
  then_ready mid o d eo flags ready x = ⊎_elim
      (λ now. inl (now True d eo))
      (λ y. ⊎_elim
      (λ et. absurd (y.1.0 et))
      (λ k.
      let ok : out flags k.0 (places e) s F ≡ Decided True d = k.3.1.0.0 ∙ sym y.1.1 ∙ eo in
      let le : d ≤ k.0 = within (formula_of F) flags (places e) s k.0 d True k.2 ok in
      let og : out flags k.0 (places e) d G ≡ Open = after_open (out flags k.0 (places e) s F) (λ d. out flags k.0 (places e) d G) d ok k.3.0 in
      inr (k.0, k.1, le, (og, subst (λ (l : List ℕ). RunHolds flags k.0 (places e) d G (drop 4 l)) (sym y.0) (k.3.1.1 d ok))))
      ready)
      x

  pub then_true : (mid : List ℕ) (o r : Outcome) (v : Verdict) (d : ℕ) (ys rest run' : List ℕ) → PartAdvanced F hist b e s t 0 4 (length run) run o mid → o ≡ Decided v d → v ≡ True
      → 4 ≤ length mid → rest ≡ drop 4 mid → Advanced G hist b e d t rest r ys → run' ≡ put_mid 4 (length mid - 4) mid ys
      → Advanced (then_node F G) hist b e s t run r run'
  unfolding outcome after RunHolds Reach formula_of
  then_true mid o r v d ys rest run' fst eo ev room er adv ep = record {
    gives = λ flags H hon reach ready.
        let f = fst.gives.1 flags H hon reach.0 (then_before flags ready) in
        let e' : o ≡ Decided True d = eo ∙ ap (λ (x : Verdict). Decided x d) ev in
        let ef : out flags t (places e) s F ≡ Decided True d = sym f.0 ∙ e' in
        let a = adv.gives flags H hon (reach.1 t d (begun flags ready) ef) (subst (RunReady flags t (places e) d G) (sym er) (then_ready mid o d e' flags ready f.1.1)) in
        let tail : drop 4 run' ≡ ys = ap (drop 4) ep ∙ tail_drop mid ys room in
        let h0 : get_or run' 0 0 ≡ get_or mid 0 0 = ap (λ (l : List ℕ). get_or l 0 0) ep ∙ tail_head mid ys room 0 (omega arith) in
        let h2 : get_or run' 2 0 ≡ get_or mid 2 0 = ap (λ (l : List ℕ). get_or l 2 0) ep ∙ tail_head mid ys room 2 (omega arith) in (
          a.0 ∙ ap (λ (x : Outcome). after x (λ d. out flags t (places e) d G)) (sym ef),
          λ w. (
            (rw (h0, h2) f.1.0.0, λ x. clash (out flags t (places e) s F) x ef),
            λ d' q.
                let ed : d' ≡ d = cc in
                let og : out flags t (places e) d G ≡ Open = after_open (out flags t (places e) s F) (λ d. out flags t (places e) d G) d ef w in
                rw (tail, ed) (a.1 og),
          ),
        );
  }
