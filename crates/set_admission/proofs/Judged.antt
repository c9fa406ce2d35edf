-- What the figures of a sheet's rules and an opening of them answer, by what their parts answered.
use Prim.Native.Nat.{ℕ, ◌+◌, ◌-◌, ◌≤◌, ◌<◌}
use native.Mathlib.Omega.{arith}
use mathlib.Core.Path.{◌≡◌, refl, sym, ap, ◌∙◌}
use mathlib.Core.Bool.{Bool, true, false}
use mathlib.Core.List.{List}
use lib.Dec.{leb}
use lib.ListN.{length}
use Rattle.refusal.specs.Answer.{Answer, refused, accepted, and_then}
use Rattle.refusal.proofs.Answers.{both_accepted}
use Rattle.sheet.specs.Sheet.{rule_count, rule_body}
use Rattle.rule.specs.declared.Figures.{Figures}
use Rattle.rule.specs.Figures.{body_figures}
use Rattle.demand.specs.Contract.{must}
use Rattle.demand.specs.SetContract.{all_cells, bodies_from, sheet_bodies, all_figures, set_figures, set_room, admit_set_lengths}
use Rattle.demand.proofs.SetRules.{bodies_length, figures_told}
use Rattle.admission.specs.Admitted.{FiguresWithin}
use Rattle.admission.proofs.Admits.{small}
use Rattle.set_admission.specs.declared.sheet_figures.SetFigures.{SetFigures}
use Rattle.set_admission.specs.Together.{sums_of, summed, few_cells, with_figures, SmallSums, Laid}
use Rattle.set_admission.proofs.Added.{summed_next, refused_before, all_small, small_sums, summed_accepted}
use Rattle.set_admission.proofs.Laying.{LaidOut, laid_told, entry_is}

-- ---- the rules one after another

module _ (s : List ℕ) (i : ℕ) where
  pub rule_small : (b : Answer Figures) → b ≡ and_then (rule_body s i) body_figures → (f : Figures) → b ≡ accepted f → FiguresWithin f
  rule_small b e f h =
      let x = both_accepted (rule_body s i) body_figures f (sym e ∙ h) in
      small x.0 f x.2

  module _ (sums : SetFigures) (sofar : accepted sums ≡ summed (all_figures (bodies_from i s 0))) where
    pub sums_small : i ≤ 32 → SmallSums sums
    sums_small low =
        let bodies = bodies_from i s 0 in
        let x = summed_accepted (all_figures bodies) sofar in
        rw x.2 (small_sums (length bodies) x.0 (all_small bodies x.0 x.1) (rw (bodies_length i s 0) low))

    module _ (l : LaidOut s) (h : i < rule_count s) (b : Answer Figures) (here : b ≡ and_then (rule_body s i) body_figures) where
      one_more : summed (all_figures (bodies_from (i + 1) s 0)) ≡ and_then b (λ f. accepted (with_figures sums f))
      unfolding and_then
      one_more = summed_next s i ∙ rw (← sofar, here, entry_is s l i h) refl

      pub one_rule_more : (f : Figures) → b ≡ accepted f → (sums' : SetFigures) → sums' ≡ with_figures sums f → accepted sums' ≡ summed (all_figures (bodies_from (i + 1) s 0))
      unfolding and_then
      one_rule_more f b_is sums' e = sym (one_more ∙ rw (b_is, e) refl)

      pub rule_refused : (n : ℕ) → b ≡ refused n → refused n ≡ summed (all_figures (bodies_from (rule_count s) s 0))
      unfolding and_then
      rule_refused n b_is =
          let q : (i + 1) + (rule_count s - (i + 1)) ≡ rule_count s = omega arith in
          sym (rw q at (refused_before s (i + 1) (rule_count s - (i + 1)) n (one_more ∙ rw b_is refl)))

-- ---- the figures of all rules

abbrev within_4096 : List Figures → Answer (List Figures)
within_4096 figures = must (leb (all_cells figures) 4096) 27 (accepted figures)

limited : (b : Bool) (fs : List Figures) → must b 27 (accepted (sums_of fs)) ≡ summed (must b 27 (accepted fs))
unfolding must and_then
limited true fs = refl
limited false fs = refl

summed_limited : (x : Answer (List Figures)) → and_then (summed x) few_cells ≡ summed (and_then x within_4096)
unfolding and_then
summed_limited (refused n) = refl
summed_limited (accepted fs) = limited (leb (all_cells fs) 4096) fs

module _ (s : List ℕ) where
  pub no_figures_of : (n : ℕ) → sheet_bodies s ≡ refused n → refused n ≡ summed (set_figures s)
  unfolding set_figures and_then
  no_figures_of n e = rw e

  pub figures_of : (r : Answer SetFigures) → Laid s → r ≡ and_then (summed (all_figures (bodies_from (rule_count s) s 0))) few_cells → r ≡ summed (set_figures s)
  unfolding set_figures and_then
  figures_of r l h = h ∙ summed_limited (all_figures (bodies_from (rule_count s) s 0)) ∙ rw l

  pub no_figures_laid : (n : ℕ) → Laid s → refused n ≡ summed (all_figures (bodies_from (rule_count s) s 0)) → refused n ≡ summed (set_figures s)
  unfolding and_then
  no_figures_laid n l h = figures_of (refused n) l (rw (← h) refl)

-- Accepted figures: of a sheet that is laid out, as many as its rules, with few cells.
pub record Together (s : List ℕ) (fs : List Figures) : Type 0 where
  pub laid : LaidOut s
  pub bodies_are : all_figures (bodies_from (rule_count s) s 0) ≡ accepted fs
  pub as_many : length fs ≡ rule_count s
  pub few : all_cells fs ≤ 4096

pub together : (s : List ℕ) (fs : List Figures) → set_figures s ≡ accepted fs → Together s fs
together s fs e =
    let x = figures_told s fs e in
    let l = laid_told s x.bodies_are in
    let b : all_figures (bodies_from (rule_count s) s 0) ≡ accepted fs = ap all_figures (sym l.1) ∙ x.figures_are in
    record {
      laid = l.0;
      bodies_are = b;
      as_many = (all_small (bodies_from (rule_count s) s 0) fs b).as_many ∙ bodies_length (rule_count s) s 0;
      few = x.cells_low;
    }

-- ---- an opening

module _ (history table records : ℕ) where
  pub opening_no_figures : (s : List ℕ) (n : ℕ) → set_figures s ≡ refused n → refused n ≡ summed (admit_set_lengths s history table records)
  unfolding and_then
  opening_no_figures s n e = rw e

  pub opening_judged : (s : List ℕ) (fs : List Figures) (r : Answer SetFigures) → set_figures s ≡ accepted fs → r ≡ summed (set_room history table records fs)
      → r ≡ summed (admit_set_lengths s history table records)
  unfolding and_then
  opening_judged s fs r e h = h ∙ rw e
