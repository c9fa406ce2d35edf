-- Flags and "not"; and what the words of a node say of its tree.
use Prim.Native.Nat.{ℕ, suc, ◌+◌, ◌-◌, ◌<◌}
use mathlib.Core.Path.{◌≡◌, refl, sym, ap, ◌∙◌}
use mathlib.Core.Logic.{inl, inr, ⊎_elim}
use mathlib.Core.Bool.{true, false, ◌||◌, true≢false}
use mathlib.Core.List.{List}
use native.Mathlib.Decide.{ℕ_discrete}
use borrow.Author.Tests.{eq-eqb, ne_eqb, eqb-false, ltb-false}
use lib.Dec.{eqb, ltb}
use lib.ListN.{get_or}
use lib.Seq.{get_or-take}
use Rattle.refusal.proofs.Bools.{or_false}
use Rattle.rule.specs.declared.Outcome.{Outcome}
use Rattle.rule.specs.declared.Outcome.TheVariants.{Decided, Open}
use Rattle.rule.specs.Meaning.{opposite, verdict, up, outcome}
use Rattle.rule.specs.Started.{Reach}
use Rattle.rule.proofs.Progress.{clash}
use Rattle.nodes.specs.Table.{bound_at, is_flag}
use Rattle.nodes.proofs.Nodes.{some_left}
use Rattle.cell_runs.specs.Tree.{Tree, flag_node, not_node, then_node, beside_node, range_node, formula_of, tree_at, HasParts}
use Rattle.cell_runs.specs.Run.{RunHolds, RunReady}
use Rattle.cell_runs.specs.Calls.{Variables, places, flagged, Advanced}

opposite_open : (o : Outcome) → opposite o ≡ Open → o ≡ Open
unfolding opposite
opposite_open Open q = refl
opposite_open (Decided v d) q = clash _ q refl

module _ {hist : List ℕ} {b : ℕ} {e : Variables} {s t : ℕ} {run : List ℕ} where
  pub flag_of : (v k : ℕ) (r : Outcome) → v < e.known → r ≡ flagged e.bytes v k s → Advanced (flag_node v k) hist b e s t run r run
  unfolding outcome RunHolds formula_of
  flag_of v k r h er = record {
    gives = λ flags H hon reach ready.
        let g : get_or (places e) v 0 ≡ get_or e.pos v 0 = get_or-take e.known e.pos v 0 h in
        (er ∙ ap (λ (c : ℕ). Decided (verdict (up k c)) s) (hon.saved v h ∙ ap flags (sym g)), λ o. tt);
  }

  pub not_of : (F : Tree) (o r : Outcome) (run' : List ℕ) → Advanced F hist b e s t run o run' → r ≡ opposite o → Advanced (not_node F) hist b e s t run r run'
  unfolding outcome RunHolds RunReady Reach formula_of
  not_of F o r run' adv er = record {
    gives = λ flags H hon reach ready.
        let a = adv.gives flags H hon reach (⊎_elim (λ y. inl y) (λ y. inr (y.0, y.1, y.2, (opposite_open _ y.3.0, y.3.1))) ready) in
        (er ∙ ap opposite a.0, λ o. a.1 (opposite_open _ o));
  }

module _ (ns : List ℕ) (i : ℕ) where
  pub is_not : (left : ℕ) → get_or ns (i + 0) 0 ≡ 2 → tree_at (suc left) ns i ≡ not_node (tree_at left ns (i + 12))
  unfolding tree_at
  is_not left c = simp (eq-eqb (get_or ns (i + 0) 0) 2 c)

  pub is_then : (left : ℕ) → (left ≡ 0 → ⊥) → (get_or ns (i + 0) 0 ≡ 2 → ⊥) → get_or ns (i + 0) 0 ≡ 3
      → tree_at left ns i ≡ then_node (tree_at (left - 1) ns (i + 12)) (tree_at (left - 1) ns (get_or ns (i + 7) 0))
  unfolding tree_at
  is_then left h c1 c = ap (λ (n : ℕ). tree_at n ns i) (some_left h) ∙ simp (ne_eqb (get_or ns (i + 0) 0) 2 c1, eq-eqb (get_or ns (i + 0) 0) 3 c)

  pub is_beside : (left : ℕ) → (left ≡ 0 → ⊥) → (get_or ns (i + 0) 0 ≡ 2 → ⊥) → (get_or ns (i + 0) 0 ≡ 3 → ⊥) → get_or ns (i + 0) 0 ≡ 4
      → tree_at left ns i ≡ beside_node (get_or ns (i + 9) 0) (tree_at (left - 1) ns (i + 12)) (tree_at (left - 1) ns (get_or ns (i + 7) 0))
  unfolding tree_at
  is_beside left h c1 c2 c = ap (λ (n : ℕ). tree_at n ns i) (some_left h)
      ∙ simp (ne_eqb (get_or ns (i + 0) 0) 2 c1, ne_eqb (get_or ns (i + 0) 0) 3 c2, eq-eqb (get_or ns (i + 0) 0) 4 c)

  pub is_range : (left : ℕ) → (left ≡ 0 → ⊥) → (get_or ns (i + 0) 0 ≡ 2 → ⊥) → (get_or ns (i + 0) 0 ≡ 3 → ⊥) → (get_or ns (i + 0) 0 ≡ 4 → ⊥) → get_or ns (i + 0) 0 ≡ 5
      → tree_at left ns i ≡ range_node (bound_at ns (i + 1)) (bound_at ns (i + 4)) (get_or ns (i + 8) 0) (tree_at (left - 1) ns (i + 12))
  unfolding tree_at
  is_range left h c1 c2 c3 c = ap (λ (n : ℕ). tree_at n ns i) (some_left h)
      ∙ simp (ne_eqb (get_or ns (i + 0) 0) 2 c1, ne_eqb (get_or ns (i + 0) 0) 3 c2, ne_eqb (get_or ns (i + 0) 0) 4 c3, eq-eqb (get_or ns (i + 0) 0) 5 c)

  reads_other : (left : ℕ) → (left ≡ 0 → ⊥) → (get_or ns (i + 0) 0 ≡ 2 → ⊥) → (get_or ns (i + 0) 0 ≡ 3 → ⊥) → (get_or ns (i + 0) 0 ≡ 4 → ⊥) → (get_or ns (i + 0) 0 ≡ 5 → ⊥)
      → tree_at left ns i ≡ flag_node (get_or ns (i + 1) 0) (get_or ns (i + 2) 0)
  unfolding tree_at
  reads_other left h c1 c2 c3 c4 = ap (λ (n : ℕ). tree_at n ns i) (some_left h)
      ∙ simp (ne_eqb (get_or ns (i + 0) 0) 2 c1, ne_eqb (get_or ns (i + 0) 0) 3 c2, ne_eqb (get_or ns (i + 0) 0) 4 c3, ne_eqb (get_or ns (i + 0) 0) 5 c4)

  -- what is said to be a flag is read as one, and what is not has parts
  pub reads_flag : (left : ℕ) → is_flag left ns i ≡ true → tree_at left ns i ≡ flag_node (get_or ns (i + 1) 0) (get_or ns (i + 2) 0)
  unfolding tree_at is_flag
  reads_flag left e = elim (ℕ_discrete left 0) [
    | yes none ↦ rw none refl
    | no some ↦
        reads_other left some (λ c. true≢false (sym e ∙ simp (ne_eqb left 0 some, c))) (λ c. true≢false (sym e ∙ simp (ne_eqb left 0 some, c)))
        (λ c. true≢false (sym e ∙ simp (ne_eqb left 0 some, c))) (λ c. true≢false (sym e ∙ simp (ne_eqb left 0 some, c)))
  ]

  pub has_parts : (left : ℕ) → is_flag left ns i ≡ false → HasParts left ns i
  unfolding is_flag
  has_parts left e =
      let some = or_false (eqb left 0) (ltb (get_or ns (i + 0) 0) 2 || ltb 5 (get_or ns (i + 0) 0)) e in
      let codes = or_false (ltb (get_or ns (i + 0) 0) 2) (ltb 5 (get_or ns (i + 0) 0)) some.1 in
      (eqb-false left 0 some.0, (ltb-false (get_or ns (i + 0) 0) 2 codes.0, ltb-false 5 (get_or ns (i + 0) 0) codes.1))
