-- A tree with right sizes against the rule's tree `sized`: they differ at most in ranges that are always empty. These have no position, so neither
-- the words of a run nor what it holds depends on their slots or bodies.
use Prim.Native.Nat.{ℕ, ◌+◌, ◌*◌, ◌-◌, ◌%◌, ◌≤◌, max}
use mathlib.Core.Path.{◌≡◌, refl, sym, ap, ap₂, subst, ◌∙◌}
use mathlib.Core.Logic.{inl, inr, ⊎_elim, ◌↔◌}
use mathlib.Core.Bool.{Bool, true, false}
use mathlib.Core.List.{List, [], ◌∷◌, ◌++◌}
use native.Mathlib.Omega.{arith}
use native.Mathlib.Nat.{zero-mul}
use lib.ListN.{get_or, drop}
use Rattle.rule.specs.declared.Outcome.{Outcome}
use Rattle.rule.specs.declared.Size.{Size}
use Rattle.rule.specs.declared.Pair.{Pair}
use Rattle.rule.specs.Formula.{Bound, Formula}
use Rattle.rule.specs.Meaning.{range, outcome}
use Rattle.rule.specs.Figures.{at_tick, range_pair, width, always_empty, cells}
use Rattle.rule.specs.Positions.{Fits, In}
use Rattle.rule.proofs.Pairs.{fits_more, fits_tick, range_lies}
use Rattle.rule.proofs.AlwaysEmpty.{empty_width, empty_range}
use Rattle.cell_count.specs.Counts.{cap}
use Rattle.cells.specs.Cells.{CellHolds}
use Rattle.cells.specs.Heads.{latest_of}
use Rattle.ranges.specs.Plans.{first_of}
use Rattle.cell_runs.specs.Tree.{Tree, flag_node, not_node, then_node, beside_node, range_node, formula_of, words, Formed}
use Rattle.cell_runs.specs.Sized.{sized, RightSizes}
use Rattle.cell_runs.specs.Slots.{window, slot}
use Rattle.cell_runs.specs.Leading.{Leading}
use Rattle.cell_runs.specs.Run.{out, with_position, own_tick, RunHolds, SlotHolds}
use Rattle.cell_runs.specs.Instances.{InstancesHold}
use Rattle.cell_runs.proofs.Sizes.{formula_sized}

-- a range is always empty, or it is not
by_empty : {A : Type 0} (b : Bool) → (b ≡ true → A) → (b ≡ false → A) → A
by_empty true f g = f refl
by_empty false f g = g refl

no_words : (pair : Pair) (size : ℕ) → always_empty pair ≡ true → cap (width pair) * size ≡ 0
no_words pair size e = ap (λ (w : Size). cap w * size) ((empty_width pair).0 e) ∙ zero-mul size

-- ---- the words of the run, and that the tree is well formed

pub words_right : (T : Tree) (ps : List Pair) → RightSizes ps T → words ps T ≡ words ps (sized (formula_of T) ps)
unfolding RightSizes words sized formula_of
words_right (flag_node v k) ps r = refl
words_right (not_node F) ps r = words_right F ps r
words_right (then_node F G) ps r = ap₂ (λ (a b : ℕ). 4 + max a b) (words_right F ps r.0) (words_right G ps r.1)
words_right (beside_node size F G) ps r = ap₂ (λ (a b : ℕ). 4 + a + b) r.0 (words_right G ps r.1.1)
words_right (range_node B C size F) ps r =
    let R : Pair = range_pair B C ps in
    by_empty (always_empty R)
    (λ e. ap (λ (n : ℕ). 4 + n) (no_words R size e ∙ sym (no_words R (4 * (1 + cap (cells (formula_of F) (ps ++ (R ∷ []))))) e)))
    (λ e. ap (λ (n : ℕ). 4 + cap (width R) * n) (r e).0)

pub formed_right : (T : Tree) (ps : List Pair) → RightSizes ps T → Formed ps (sized (formula_of T) ps) → Formed ps T
unfolding RightSizes Formed sized formula_of
formed_right (flag_node v k) ps r f = f
formed_right (not_node F) ps r f = formed_right F ps r f
formed_right (then_node F G) ps r f = (formed_right F ps r.0 f.0, formed_right G ps r.1 f.1)
formed_right (beside_node size F G) ps r f =
    let w : words ps F ≡ words ps (sized (formula_of F) ps) = words_right F ps r.1.0 in
    let fits : words ps (sized (formula_of F) ps) ≤ 4 * cap (cells (formula_of F) ps) = f.0 in
    let size_is : size ≡ 4 * cap (cells (formula_of F) ps) = r.0 in
    (omega arith, (formed_right F ps r.1.0 f.1.0, formed_right G ps r.1.1 f.1.1))
formed_right (range_node B C size F) ps r f =
    let R : Pair = range_pair B C ps in
    let P : List Pair = ps ++ (R ∷ []) in (
      f.0,
      (
        f.1.0,
        by_empty (always_empty R)
            (λ e. inl (ap cap ((empty_width R).0 e)))
            (λ e. ⊎_elim (λ z. inl z)
            (λ x.
            let w : words P F ≡ words P (sized (formula_of F) P) = words_right F P (r e).1 in
            let fits : 4 + words P (sized (formula_of F) P) ≤ 4 * (1 + cap (cells (formula_of F) P)) = x.0 in
            let size_is : size ≡ 4 * (1 + cap (cells (formula_of F) P)) = (r e).0 in
            inr (omega arith, formed_right F P (r e).1 x.1))
            f.1.1),
      ),
    )

-- ---- what the run holds, from one tree to the other

cell_as : (p index : ℕ) (o o' : Outcome) (R R' : Type 0) (cell : List ℕ) → o ≡ o' → (R → R') → CellHolds p index o R cell → CellHolds p index o' R' cell
cell_as p index o o' R R' cell e f x = (sym e ∙ x.0, λ h. f (x.1 (e ∙ h)))

module _ (flags : ℕ → ℕ) (t : ℕ) where
  same_out : (F F' : Tree) → formula_of F ≡ formula_of F' → (env : List ℕ) (s : ℕ) → out flags t env s F ≡ out flags t env s F'
  same_out F F' e env s = ap (λ (G : Formula). outcome G flags t env s) e

  slot_as : (F F' : Tree) → formula_of F ≡ formula_of F' → (env : List ℕ) (s q : ℕ) (cell : List ℕ)
      → (RunHolds flags t (with_position env q) (max s q) F (drop 4 cell) → RunHolds flags t (with_position env q) (max s q) F' (drop 4 cell))
      → SlotHolds flags t env s F q cell → SlotHolds flags t env s F' q cell
  unfolding SlotHolds
  slot_as F F' e env s q cell f x =
      (x.0, cell_as (own_tick (with_position env q)) 0 _ _ _ _ cell (same_out F F' e (with_position env q) (max s q)) f x.1)

  then_as : (F F' G G' : Tree) → formula_of F ≡ formula_of F' → (env : List ℕ) (s : ℕ) (run : List ℕ)
      → (RunHolds flags t env s F (drop 4 run) → RunHolds flags t env s F' (drop 4 run))
      → ((step : ℕ) → RunHolds flags t env step G (drop 4 run) → RunHolds flags t env step G' (drop 4 run))
      → RunHolds flags t env s (then_node F G) run → RunHolds flags t env s (then_node F' G') run
  unfolding RunHolds
  then_as F F' G G' e env s run f g x = (
    cell_as (own_tick env) 0 _ _ _ _ run (same_out F F' e env s) f x.0,
    λ step h. g step (x.1 step (same_out F F' e env s ∙ h)),
  )

  beside_as : (size : ℕ) (F F' G G' : Tree) → formula_of F ≡ formula_of F' → formula_of G ≡ formula_of G' → (env : List ℕ) (s : ℕ) (run : List ℕ)
      → (RunHolds flags t env s F (window 4 (4 + size) run) → RunHolds flags t env s F' (window 4 (4 + size) run))
      → (RunHolds flags t env s G (drop (4 + size) run) → RunHolds flags t env s G' (drop (4 + size) run))
      → RunHolds flags t env s (beside_node size F G) run → RunHolds flags t env s (beside_node size F' G') run
  unfolding RunHolds
  beside_as size F F' G G' e d env s run f g x = (
    cell_as (own_tick env) 0 _ _ _ _ run (same_out F F' e env s) f x.0,
    cell_as (own_tick env) 1 _ _ _ _ run (same_out G G' d env s) g x.1,
  )

  -- slots and bodies matter only where there is a position
  range_as : (B C : Bound) (size size' : ℕ) (F F' : Tree) → formula_of F ≡ formula_of F' → {p : ℕ} {ps : List Pair} {env : List ℕ} → Fits p ps env → (s : ℕ) (run : List ℕ)
      → (always_empty (range_pair B C ps) ≡ false → size ≡ size')
      → (always_empty (range_pair B C ps) ≡ false → (q : ℕ) → In (range B C env) q → (cell : List ℕ)
      → RunHolds flags t (with_position env q) (max s q) F cell → RunHolds flags t (with_position env q) (max s q) F' cell)
      → RunHolds flags t env s (range_node B C size F) run → RunHolds flags t env s (range_node B C size' F') run
  unfolding RunHolds SlotHolds
  range_as B C size size' F F' e {p} {ps} {env} fits s run z f x =
      let first : ℕ = first_of (range B C env) in (
        λ q i l. by_empty (always_empty (range_pair B C ps))
            (λ none. absurd (empty_range B C fits none q i))
            (λ some. subst (λ (n : ℕ). SlotHolds flags t env s F' q (slot n (q - first) (drop 4 run))) (z some)
            (slot_as F F' e env s q (slot size (q - first) (drop 4 run)) (f some q i (drop 4 (slot size (q - first) (drop 4 run)))) (x.0 q i l))),
        (
          subst (λ (G : Formula). Leading (λ q. outcome G flags t (with_position env q) (max s q)) first s (get_or run 0 0) (latest_of (own_tick env) s (get_or run 0 0) (get_or run 2 0))) e x.1.0,
          x.1.1,
        ),
      )

  pub holds_right : (T : Tree) {p : ℕ} {ps : List Pair} {env : List ℕ} → Fits p ps env → RightSizes ps T → (s : ℕ) (run : List ℕ)
      → RunHolds flags t env s T run ↔ RunHolds flags t env s (sized (formula_of T) ps) run
  unfolding RightSizes sized formula_of RunHolds
  holds_right (flag_node v k) f r s run = (λ x. x, λ x. x)
  holds_right (not_node F) f r s run = holds_right F f r s run
  holds_right (then_node F G) {p} {ps} {env} f r s run =
      let F' : Tree = sized (formula_of F) ps in
      let G' : Tree = sized (formula_of G) ps in
      let e : formula_of F ≡ formula_of F' = sym (formula_sized (formula_of F) ps) in
      let first = holds_right F f r.0 s (drop 4 run) in (
        then_as F F' G G' e env s run first.0 (λ step. (holds_right G f r.1 step (drop 4 run)).0),
        then_as F' F G' G (sym e) env s run first.1 (λ step. (holds_right G f r.1 step (drop 4 run)).1),
      )
  holds_right (beside_node size F G) {p} {ps} {env} f r s run =
      let F' : Tree = sized (formula_of F) ps in
      let G' : Tree = sized (formula_of G) ps in
      let n : ℕ = 4 * cap (cells (formula_of F) ps) in
      let e : formula_of F ≡ formula_of F' = sym (formula_sized (formula_of F) ps) in
      let d : formula_of G ≡ formula_of G' = sym (formula_sized (formula_of G) ps) in
      let first = holds_right F f r.1.0 s (window 4 (4 + n) run) in
      let second = holds_right G f r.1.1 s (drop (4 + n) run) in
      subst (λ (m : ℕ). RunHolds flags t env s (beside_node m F G) run ↔ RunHolds flags t env s (beside_node n F' G') run) (sym r.0) (
        beside_as n F F' G G' e d env s run first.0 second.0,
        beside_as n F' F G' G (sym e) (sym d) env s run first.1 second.1,
      )
  holds_right (range_node B C size F) {p} {ps} {env} f r s run =
      let P : List Pair = ps ++ (range_pair B C ps ∷ []) in
      let F' : Tree = sized (formula_of F) P in
      let n : ℕ = 4 * (1 + cap (cells (formula_of F) P)) in
      let e : formula_of F ≡ formula_of F' = sym (formula_sized (formula_of F) P) in (
        range_as B C size n F F' e f s run (λ some. (r some).0)
            (λ some q i cell. (holds_right F (fits_more f (range_lies B C f q i)) (r some).1 (max s q) cell).0),
        range_as B C n size F' F (sym e) f s run (λ some. sym (r some).0)
            (λ some q i cell. (holds_right F (fits_more f (range_lies B C f q i)) (r some).1 (max s q) cell).1),
      )

-- All instances of a rule.
pub instances_right : (T : Tree) → RightSizes (at_tick ∷ []) T → (count size : ℕ) (flags : ℕ → ℕ) (t : ℕ) (cells : List ℕ)
    → InstancesHold T count size flags t cells ↔ InstancesHold (sized (formula_of T) (at_tick ∷ [])) count size flags t cells
unfolding InstancesHold
instances_right T r count size flags t cells =
    let T' : Tree = sized (formula_of T) (at_tick ∷ []) in
    let e : formula_of T ≡ formula_of T' = sym (formula_sized (formula_of T) (at_tick ∷ [])) in (
      λ h last p after started recent.
          let cell : List ℕ = slot size (p % count) cells in
          slot_as flags last T T' e [] p p cell (holds_right flags last T (fits_tick p) r (max p p) (drop 4 cell)).0 (h last p after started recent),
      λ h last p after started recent.
          let cell : List ℕ = slot size (p % count) cells in
          slot_as flags last T' T (sym e) [] p p cell (holds_right flags last T (fits_tick p) r (max p p) (drop 4 cell)).1 (h last p after started recent),
    )
