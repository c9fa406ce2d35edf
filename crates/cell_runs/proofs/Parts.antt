-- A part of a formula: its outcome stands in its cell, or it is moved and its outcome is written there.
use Prim.Native.Nat.{ℕ, ◌+◌, ◌-◌, ◌≤◌, ◌<◌}
use mathlib.Core.Path.{◌≡◌, refl, sym, ap, subst, ◌∙◌}
use mathlib.Core.Logic.{◌⊎◌, inl, inr, ⊎_elim}
use mathlib.Core.List.{List}
use native.Mathlib.Omega.{arith}
use lib.ListN.{length, get_or, take, drop, length-drop}
use lib.Seq.{get_or-take, length-take-le}
use borrow.Rule.Slice.PartMut.{put_mid, same_len_mid}
use Rattle.rule.specs.declared.Verdict.{Verdict}
use Rattle.rule.specs.declared.Outcome.{Outcome}
use Rattle.rule.specs.declared.Outcome.TheVariants.{Decided, Open}
use Rattle.rule.specs.Started.{Before}
use Rattle.rule.proofs.Progress.{clash, stays, fresh}
use Rattle.cell_runs.specs.Tree.{Tree, formula_of}
use Rattle.cells.specs.Cells.{held, CellHolds, mark}
use Rattle.cell_runs.specs.Slots.{window}
use Rattle.cell_runs.specs.Run.{out, own_tick, RunHolds, RunReady}
use Rattle.cell_runs.specs.Calls.{Variables, places, PartFit, Advanced, Untouched, PartAdvanced}
use Rattle.cells.proofs.Marks.{mark_drop, mark_held, Small}
use Rattle.cell_runs.proofs.PutBack.{part_window, part_kept, same_kept}

pub tick_is : (e : Variables) → 0 < e.known → get_or e.pos 0 0 ≡ own_tick (places e)
tick_is e h = sym (get_or-take e.known e.pos 0 0 h)

module _ (F : Tree) (hist : List ℕ) (b : ℕ) (e : Variables) (s t k a z : ℕ) (run : List ℕ) where
  fresh_now : (flags : ℕ → ℕ) (l : List ℕ) (r : Outcome) → RunReady flags t (places e) s F l → r ≡ out flags t (places e) s F
      → (v : Verdict) (d : ℕ) → r ≡ Decided v d → t ≡ d
  unfolding RunReady
  fresh_now flags l r x er v d q =
      fresh (formula_of F) flags (places e) s t d v (⊎_elim (λ y. inl y) (λ y. inr (y.0, y.1, y.2, y.3.0)) x) (sym er ∙ q)

  pub part_stays : (p : ℕ) (o : Outcome) (v : Verdict) (d : ℕ) → p ≡ own_tick (places e) → (t ≡ s → ⊥) → o ≡ held p (get_or run k 0) (get_or run (k + 2) 0) → o ≡ Decided v d
      → PartAdvanced F hist b e s t k a z run o run
  part_stays p o v d ep ne eo ed = record {
    gives = (
      same_kept k a z run,
      λ flags H hon reach bef. ⊎_elim
          (λ et. absurd (ne et))
          (λ y.
          let eh : o ≡ held (own_tick (places e)) (get_or run k 0) (get_or run (k + 2) 0) = eo ∙ ap (λ (x : ℕ). held x (get_or run k 0) (get_or run (k + 2) 0)) ep in
          let es : o ≡ Decided v d = ed in
          let ok : out flags y.0 (places e) s F ≡ Decided v d = y.3.0 ∙ sym eh ∙ es in
          let ot : out flags t (places e) s F ≡ Decided v d = rw y.1 (stays (formula_of F) flags (places e) s y.0 d v y.2 ok) in
          (es ∙ sym ot, ((ot ∙ sym es ∙ eh, λ x. clash (out flags t (places e) s F) x ot), inr (refl, (ne, eh)))))
          bef,
    );
  }

  part_ready : (flags : ℕ → ℕ) → ((t ≡ s) ⊎ (Open ≡ held (own_tick (places e)) (get_or run k 0) (get_or run (k + 2) 0)))
      → Before s t (λ j. CellHolds (own_tick (places e)) k (out flags j (places e) s F) (RunHolds flags j (places e) s F (window a z run)) run)
      → RunReady flags t (places e) s F (window a z run)
  unfolding RunReady
  part_ready flags m bef = ⊎_elim (λ et. inl et) (λ ho. ⊎_elim
      (λ et. inl et)
      (λ y. let ok : out flags y.0 (places e) s F ≡ Open = y.3.0 ∙ sym ho in inr (y.0, y.1, y.2, (ok, y.3.1 ok)))
      bef) m

  pub part_moved : (p : ℕ) → p ≡ own_tick (places e) → PartFit F e t k a z (length run) → own_tick (places e) ≤ t → ((t ≡ s) ⊎ (Open ≡ held p (get_or run k 0) (get_or run (k + 2) 0)))
      → (r : Outcome) (ys run' : List ℕ) → Advanced F hist b e s t (window a z run) r ys → length ys ≡ length (window a z run)
      → run' ≡ mark p k r (put_mid a (z - a) run ys)
      → PartAdvanced F hist b e s t k a z run r run'
  part_moved p eq fit come m r ys run' adv ly ep = record {
    gives =
        let start : a ≤ z = fit.ordered in
        let end : z ≤ length run = fit.inside in
        let after : 4 ≤ a = fit.after_cell in
        let cell : k < 2 = fit.cell in
        let near : t < own_tick (places e) + 4294967296 = fit.fit.near in
        let low : t < 4611686018427387904 = fit.fit.low in
        let put : List ℕ = put_mid a (z - a) run ys in
        let dl : length (drop a run) ≡ length run - a = length-drop a run in
        let len : length ys ≡ z - a = ly ∙ length-take-le (z - a) (drop a run) (omega arith) in
        let long : length put ≡ length run = same_len_mid a (z - a) run ys ly in
        let m' : (t ≡ s) ⊎ (Open ≡ held (own_tick (places e)) (get_or run k 0) (get_or run (k + 2) 0)) = subst (λ (x : ℕ). (t ≡ s) ⊎ (Open ≡ held x (get_or run k 0) (get_or run (k + 2) 0))) eq m in
        let ep' : run' ≡ mark (own_tick (places e)) k r put = ep ∙ ap (λ (x : ℕ). mark x k r put) eq in (
          subst (Untouched k a z run) (sym ep) (part_kept run ys a z start end len p k r cell after long),
          λ flags H hon reach bef.
              let rd = part_ready flags m' bef in
              let x = adv.gives flags H hon reach rd in
              let small : Small (own_tick (places e)) r = record {
                from = λ v d q. let f : t ≡ d = fresh_now flags (window a z run) r rd x.0 v d q in omega arith;
                small = λ v d q. let f : t ≡ d = fresh_now flags (window a z run) r rd x.0 v d q in omega arith;
                low = λ v d q. let f : t ≡ d = fresh_now flags (window a z run) r rd x.0 v d q in omega arith;
              } in
              let kept : r ≡ held (own_tick (places e)) (get_or run' k 0) (get_or run' (k + 2) 0) = rw ep' (mark_held (own_tick (places e)) k r put (omega arith) small) in
              let tail : window a z run' ≡ ys = ap (window a z) ep ∙ ap (take (z - a)) (mark_drop p k r put a (omega arith)) ∙ part_window run ys a z start end len in
              (x.0, ((sym x.0 ∙ kept, λ q. subst (RunHolds flags t (places e) s F) (sym tail) (x.1 q)), inl (fresh_now flags (window a z run) r rd x.0))),
        );
  }
