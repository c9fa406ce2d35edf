-- The rules of a set: the bodies of its sheet, the records that an opening gives, and what it says of an opening that it is admitted.
use Prim.Native.Nat.{ℕ, zero, suc, ◌+◌, ◌*◌, ◌≤◌, ◌<◌}
use mathlib.Core.Path.{◌≡◌, refl, sym, ap, subst, ◌∙◌}
use mathlib.Core.Bool.{◌&&◌}
use mathlib.Core.List.{List, [], ◌∷◌}
use native.Mathlib.Nat.{add-zero, zero-add, not-suc-le-zero, le_of_suc-le-suc}
use native.Mathlib.Omega.{arith}
use lib.Dec.{leb}
use lib.ListN.{length, get_or, take, drop}
use borrow.Author.Tests.{leb-true, le-leb}
use Rattle.refusal.specs.Answer.{Answer, accepted, and_then}
use Rattle.refusal.proofs.Answers.{same_value, both_accepted}
use Rattle.refusal.proofs.Bools.{and_true}
use Rattle.sheet.specs.Sheet.{rule_count, body_offset, extent, has_contents, laid_out, rule_body}
use Rattle.sheet.proofs.Entries.{Contents, contents_told, Inside, entry_inside, place_here, body_at}
use Rattle.rule.specs.declared.Figures.{Figures}
use Rattle.rule.specs.Formula.{Formula}
use Rattle.rule.specs.Body.{body}
use Rattle.rule.specs.Figures.{figures, body_figures}
use Rattle.demand.specs.Contract.{must}
use Rattle.demand.specs.SetContract.{SetOpening, no_rule, all_cells, largest, bodies_from, sheet_bodies, all_figures, set_figures, set_room, admit_set_lengths, admit_set, opened_rule, opened_rules}
use Rattle.demand.specs.SetDemand.{no_figures, no_formula, SetAcceptable}
use Rattle.demand.proofs.Admission.{must_passed, formula_of}
use Rattle.demand.proofs.SetLists.{AllFigures, all_figures_told}

-- ---- the bodies of a sheet

pub bodies_length : (n : ℕ) (s : List ℕ) (i : ℕ) → length (bodies_from n s i) ≡ n
unfolding bodies_from
bodies_length zero s i = refl
bodies_length (suc n) s i = ap suc (bodies_length n s (suc i))

pub bodies_at : (n : ℕ) (s : List ℕ) (i j : ℕ) → j < n → get_or (bodies_from n s i) j [] ≡ take (extent s (i + j)) (drop (body_offset s (i + j)) s)
unfolding bodies_from
bodies_at zero s i j h = absurd (not-suc-le-zero h)
bodies_at (suc n) s i zero h = rw (add-zero i) refl
bodies_at (suc n) s i (suc j) h =
    let q : suc i + j ≡ i + suc j = omega arith in
    bodies_at n s (suc i) j (le_of_suc-le-suc h) ∙ rw q refl

pub record SheetTold (s : List ℕ) (bs : List (List ℕ)) : Type 0 where
  pub contents : Contents s
  pub as_many : length bs ≡ rule_count s
  pub inside : (i : ℕ) → i < length bs → Inside s i
  pub bytes : (i : ℕ) → i < length bs → get_or bs i [] ≡ take (extent s i) (drop (body_offset s i) s)
  -- Rule i of the sheet has its body i.
  pub body_of : (i : ℕ) → i < length bs → rule_body s i ≡ accepted (get_or bs i [])

pub sheet_told : (s : List ℕ) (bs : List (List ℕ)) → sheet_bodies s ≡ accepted bs → SheetTold s bs
unfolding sheet_bodies
sheet_told s bs e =
    let n = rule_count s in
    let laid = laid_out n s 0 (1 + 4 * n) in
    let x = must_passed (has_contents s) 1 (must laid 2 (accepted (bodies_from n s 0))) e in
    let y = must_passed laid 2 (accepted (bodies_from n s 0)) x.1 in
    let q : bodies_from n s 0 ≡ bs = same_value y.1 in
    let many : length bs ≡ n = ap length (sym q) ∙ bodies_length n s 0 in
    let bytes : (i : ℕ) → i < length bs → get_or bs i [] ≡ take (extent s i) (drop (body_offset s i) s) = λ i h.
    ap (λ (l : List (List ℕ)). get_or l i []) (sym q) ∙ bodies_at n s 0 i (omega (arith, many)) ∙ rw (zero-add i) refl in
    record {
      contents = contents_told s x.0;
      as_many = many;
      inside = λ i h. rw zero-add at (entry_inside n s 0 (1 + 4 * n) y.0 i (omega (arith, many)));
      bytes = bytes;
      body_of = λ i h. body_at s i _ (sym (place_here s i n refl x.0 y.0 (omega (arith, many)))) ∙ ap accepted (sym (bytes i h));
    }

-- ---- the records that an opening gives

pub opened_rules_length : (s : List ℕ) (L index first : ℕ) (fs : List Figures) → length (opened_rules s L index first fs) ≡ length fs
unfolding opened_rules
opened_rules_length s L index first [] = refl
opened_rules_length s L index first (f ∷ fs) = ap suc (opened_rules_length s L (suc index) _ fs)

pub opened_at : (s : List ℕ) (L index first : ℕ) (fs : List Figures) (i : ℕ) → i < length fs
    → get_or (opened_rules s L index first fs) i no_rule ≡ opened_rule s L (index + i) (first + all_cells (take i fs)) (get_or fs i no_figures)
unfolding opened_rules
opened_at s L index first [] i h = absurd (not-suc-le-zero h)
opened_at s L index first (f ∷ fs) zero h = rw (add-zero index, add-zero first) refl
opened_at s L index first (f ∷ fs) (suc i) h =
    let q : (first + f.cells) + all_cells (take i fs) ≡ first + (f.cells + all_cells (take i fs)) = omega arith in
    let p : suc index + i ≡ index + suc i = omega arith in
    opened_at s L (suc index) (first + f.cells) fs i (le_of_suc-le-suc h) ∙ rw (q, p) refl

-- ---- an acceptable opening

figures_from : (bs : List (List ℕ)) (fs : List Figures) → length fs ≡ length bs
    → ((i : ℕ) → i < length bs → body_figures (get_or bs i []) ≡ accepted (get_or fs i no_figures)) → all_figures bs ≡ accepted fs
unfolding all_figures and_then
figures_from [] [] e h = refl
figures_from [] (f ∷ fs) e h = absurd (omega arith)
figures_from (b ∷ bs) [] e h = absurd (omega arith)
figures_from (b ∷ bs) (f ∷ fs) e h =
    simp (h 0 (omega arith), figures_from bs fs (omega arith) (λ i x. h (suc i) (omega arith)))

module _ (o : SetOpening) (Fs : List Formula) (fs : List Figures) (c : SetAcceptable o Fs fs) where
  pub own_figures : (i : ℕ) → i < length c.bodies → body_figures (get_or c.bodies i []) ≡ accepted (get_or fs i no_figures)
  unfolding body_figures and_then
  own_figures i h = simp (c.formula_is i h, c.figures_are i h)

  pub set_opening_is : admit_set o ≡ accepted fs
  unfolding set_figures set_room must and_then
  set_opening_is =
      simp (
        c.bodies_are,
        figures_from c.bodies fs c.as_many_figures own_figures,
        le-leb (all_cells fs) 4096 c.cells_low,
        le-leb (largest fs) (length o.history) c.history_low,
        le-leb (length o.history) 4096 c.history_high,
        le-leb (4 * all_cells fs) (length o.table) c.cells_there,
        le-leb (length fs) (length o.records) c.records_there,
      )

-- ---- an admitted opening

-- The rules of a sheet have these figures.
pub record FiguresTold (s : List ℕ) (fs : List Figures) : Type 0 where
  pub bodies : List (List ℕ)
  pub bodies_are : sheet_bodies s ≡ accepted bodies
  pub figures_are : all_figures bodies ≡ accepted fs
  pub cells_low : all_cells fs ≤ 4096

pub figures_told : (s : List ℕ) (fs : List Figures) → set_figures s ≡ accepted fs → FiguresTold s fs
unfolding set_figures
figures_told s fs e =
    let limited : List Figures → Answer (List Figures) = λ gs. must (leb (all_cells gs) 4096) 27 (accepted gs) in
    let x = both_accepted (sheet_bodies s) (λ bs. and_then (all_figures bs) limited) fs e in
    let y = both_accepted (all_figures x.0) limited fs x.2 in
    let gs = y.0 in
    let a = must_passed (leb (all_cells gs) 4096) 27 (accepted gs) y.2 in
    subst (FiguresTold s) (same_value a.1)
    (record { bodies = x.0; bodies_are = x.1; figures_are = y.1; cells_low = leb-true (all_cells gs) 4096 a.0 })

-- What is lent is enough for rules with these figures.
pub record RoomTold (history table records : ℕ) (fs : List Figures) : Type 0 where
  pub history_low : largest fs ≤ history
  pub history_high : history ≤ 4096
  pub cells_there : 4 * all_cells fs ≤ table
  pub records_there : length fs ≤ records

pub opening_told : (s : List ℕ) (history table records : ℕ) (fs : List Figures) → admit_set_lengths s history table records ≡ accepted fs
    → (set_figures s ≡ accepted fs) × RoomTold history table records fs
unfolding set_room
opening_told s history table records fs e =
    let x = both_accepted (set_figures s) (set_room history table records) fs e in
    let gs = x.0 in
    let a = must_passed (leb (largest gs) history && leb history 4096) 17 _ x.2 in
    let b = must_passed (leb (4 * all_cells gs) table && leb (length gs) records) 18 _ a.1 in
    let histories = and_true (leb (largest gs) history) (leb history 4096) a.0 in
    let lent = and_true (leb (4 * all_cells gs) table) (leb (length gs) records) b.0 in
    subst (λ (l : List Figures). (set_figures s ≡ accepted l) × RoomTold history table records l) (same_value b.1) (
      x.1,
      record {
        history_low = leb-true (largest gs) history histories.0;
        history_high = leb-true history 4096 histories.1;
        cells_there = leb-true (4 * all_cells gs) table lent.0;
        records_there = leb-true (length gs) records lent.1;
      },
    )

formulas_of : (bs : List (List ℕ)) (fs : List Figures) → length fs ≡ length bs
    → ((i : ℕ) → i < length bs → body_figures (get_or bs i []) ≡ accepted (get_or fs i no_figures))
    → (Fs : List Formula) × (length Fs ≡ length bs) × ((i : ℕ) → i < length bs → body (get_or bs i []) ≡ accepted (get_or Fs i no_formula))
    × ((i : ℕ) → i < length bs → figures (get_or Fs i no_formula) ≡ accepted (get_or fs i no_figures))
formulas_of [] fs e h = ([], refl, λ i x. absurd (not-suc-le-zero x), λ i x. absurd (not-suc-le-zero x))
formulas_of (b ∷ bs) [] e h = absurd (omega arith)
formulas_of (b ∷ bs) (f ∷ fs) e h =
    let x = formula_of b f (h 0 (omega arith)) in
    let y = formulas_of bs fs (omega arith) (λ i q. h (suc i) (omega arith)) in
    (x.0 ∷ y.0, ap suc y.1, first x.0 x.1 y.0 y.2, second x.0 x.2 y.0 y.3)
  where
    first : (F : Formula) → body b ≡ accepted F → (Fs : List Formula) → ((i : ℕ) → i < length bs → body (get_or bs i []) ≡ accepted (get_or Fs i no_formula))
        → (i : ℕ) → i < length (b ∷ bs) → body (get_or (b ∷ bs) i []) ≡ accepted (get_or (F ∷ Fs) i no_formula)
    first F p Fs q zero x = p
    first F p Fs q (suc i) x = q i (le_of_suc-le-suc x)

    second : (F : Formula) → figures F ≡ accepted f → (Fs : List Formula) → ((i : ℕ) → i < length bs → figures (get_or Fs i no_formula) ≡ accepted (get_or fs i no_figures))
        → (i : ℕ) → i < length (b ∷ bs) → figures (get_or (F ∷ Fs) i no_formula) ≡ accepted (get_or (f ∷ fs) i no_figures)
    second F p Fs q zero x = p
    second F p Fs q (suc i) x = q i (le_of_suc-le-suc x)

pub set_admitted : (o : SetOpening) (fs : List Figures) → admit_set o ≡ accepted fs → (Fs : List Formula) × SetAcceptable o Fs fs
set_admitted o fs e =
    let t = opening_told o.sheet (length o.history) (length o.table) (length o.records) fs e in
    let f = figures_told o.sheet fs t.0 in
    let told : AllFigures f.bodies fs = all_figures_told f.bodies fs f.figures_are in
    let v = formulas_of f.bodies fs told.as_many told.each in (
      v.0,
      record {
        bodies = f.bodies;
        bodies_are = f.bodies_are;
        as_many_formulas = v.1;
        as_many_figures = told.as_many;
        formula_is = v.2;
        figures_are = v.3;
        cells_low = f.cells_low;
        history_low = t.1.history_low;
        history_high = t.1.history_high;
        cells_there = t.1.cells_there;
        records_there = t.1.records_there;
      },
    )
