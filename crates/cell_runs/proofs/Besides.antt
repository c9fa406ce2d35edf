-- Beside: two parts, each with its outcome in the one cell and its own run.
use Prim.Native.Nat.{ℕ, ◌+◌, ◌≤◌}
use mathlib.Core.Path.{◌≡◌, sym, ap, ap₂, subst, ◌∙◌}
use mathlib.Core.Logic.{inl, inr, ⊎_elim}
use mathlib.Core.List.{List}
use native.Mathlib.Omega.{arith}
use lib.ListN.{length, get_or, drop}
use Rattle.rule.specs.declared.Verdict.TheVariants.{False}
use Rattle.rule.specs.declared.Outcome.{Outcome}
use Rattle.rule.specs.declared.Outcome.TheVariants.{Decided}
use Rattle.rule.specs.Meaning.{both, outcome}
use Rattle.rule.specs.Started.{Reach}
use Rattle.rule.proofs.Progress.{clash, within, fresh}
use Rattle.cell_runs.specs.Tree.{Tree, beside_node, formula_of}
use Rattle.cells.specs.Cells.{held}
use Rattle.cell_runs.specs.Slots.{window}
use Rattle.cell_runs.specs.Run.{out, own_tick, RunHolds, RunReady}
use Rattle.cell_runs.specs.Calls.{Variables, places, Advanced, PartAdvanced}
use Rattle.cell_runs.proofs.PutBack.{rest_take}
use Rattle.cell_runs.proofs.Walks.{false_first}

module _ {f : ℕ} {F G : Tree} {hist : List ℕ} {b : ℕ} {e : Variables} {s t : ℕ} {run : List ℕ} where
  pub beside_of : (mid run' : List ℕ) (x y r : Outcome) → 4 + f ≤ length run
      → PartAdvanced F hist b e s t 0 4 (4 + f) run x mid → PartAdvanced G hist b e s t 1 (4 + f) (length run) mid y run' → r ≡ both x y
      → Advanced (beside_node f F G) hist b e s t run r run'
  unfolding outcome RunHolds RunReady Reach formula_of
  beside_of mid run' x y r room p q er = record {
    gives = λ flags H hon reach ready.
        let a = p.gives.1 flags H hon reach.0 (⊎_elim (λ y. inl y) (λ y. inr (y.0, y.1, y.2, y.3.1.0)) ready) in
        let m1 : get_or mid 1 0 ≡ get_or run 1 0 = p.gives.0.other 1 (omega arith) (omega arith) (omega arith) in
        let m3 : get_or mid 3 0 ≡ get_or run 3 0 = p.gives.0.other 3 (omega arith) (omega arith) (omega arith) in
        let md : window (4 + f) (length run) mid ≡ drop (4 + f) run = rest_take (4 + f) (length run) mid (sym p.gives.0.long) ∙ p.gives.0.back in
        let c = q.gives.1 flags H hon reach.1 (⊎_elim (λ y. inl y)
        (λ y. inr (
          y.0,
          y.1,
          y.2,
          (
            y.3.1.1.0 ∙ sym (ap (λ (n : ℕ). held (own_tick (places e)) n (get_or mid 3 0)) m1 ∙ ap (held (own_tick (places e)) (get_or run 1 0)) m3),
            λ o. subst (RunHolds flags y.0 (places e) s G) (sym md) (y.3.1.1.1 o),
          ),
        )) ready) in
        let n0 : get_or run' 0 0 ≡ get_or mid 0 0 = q.gives.0.other 0 (omega arith) (omega arith) (omega arith) in
        let n2 : get_or run' 2 0 ≡ get_or mid 2 0 = q.gives.0.other 2 (omega arith) (omega arith) (omega arith) in
        let nf : window 4 (4 + f) run' ≡ window 4 (4 + f) mid = q.gives.0.front 4 (4 + f) (omega arith) (omega arith) in
        let nd : window (4 + f) (length run) run' ≡ drop (4 + f) run' = rest_take (4 + f) (length run) run' (sym (q.gives.0.long ∙ p.gives.0.long)) in (
          er ∙ ap₂ both a.0 c.0,
          λ w. (
            (
              a.1.0.0 ∙ sym (ap (λ (n : ℕ). held (own_tick (places e)) n (get_or run' 2 0)) n0 ∙ ap (held (own_tick (places e)) (get_or mid 0 0)) n2),
              λ o. subst (RunHolds flags t (places e) s F) (sym nf) (a.1.0.1 o),
            ),
            (c.1.0.0, λ o. subst (RunHolds flags t (places e) s G) nd (c.1.0.1 o)),
          ),
        );
  }

  -- the first part is false: the formula was not decided before, so it is false now, whatever the second is
  pub beside_stopped : (mid : List ℕ) (x : Outcome) (d : ℕ) → PartAdvanced F hist b e s t 0 4 (4 + f) run x mid → x ≡ Decided False d
      → Advanced (beside_node f F G) hist b e s t run x mid
  unfolding outcome RunHolds RunReady Reach formula_of
  beside_stopped mid x d p ex = record {
    gives = λ flags H hon reach ready.
        let st : s ≤ t = ⊎_elim (λ y. omega (arith, y)) (λ y. omega (arith, y.1, y.2)) ready in
        let a = p.gives.1 flags H hon reach.0 (⊎_elim (λ y. inl y) (λ y. inr (y.0, y.1, y.2, y.3.1.0)) ready) in
        let first : out flags t (places e) s F ≡ Decided False d = sym a.0 ∙ ex in
        let least = false_first d (out flags t (places e) s G) in
        let whole : out flags t (places e) s (beside_node f F G) ≡ Decided False least.0 = ap (λ (o : Outcome). both o (out flags t (places e) s G)) first ∙ least.1 in
        let by : d ≤ t = within (formula_of F) flags (places e) s t d False st first in
        let now : t ≡ least.0 = fresh (formula_of (beside_node f F G)) flags (places e) s t least.0 False (⊎_elim (λ y. inl y) (λ y. inr (y.0, y.1, y.2, y.3.0)) ready) whole in
        let same : d ≡ least.0 = omega (arith, least.2) in
        (ex ∙ ap (Decided False) same ∙ sym whole, λ w. clash (out flags t (places e) s (beside_node f F G)) w whole);
  }
