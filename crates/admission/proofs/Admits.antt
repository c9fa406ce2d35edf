-- What admitting answers, by what the figures and the tests say.
use Prim.Native.Nat.{ℕ, ◌≤◌, ◌<◌}
use mathlib.Core.Path.{◌≡◌, sym, ap, ◌∙◌, subst}
use mathlib.Core.List.{List}
use Rattle.std.specs.Prelude.{Result, Ok, Err}
use borrow.Author.Tests.{le-leb, lt-leb}
use Rattle.refusal.specs.declared.Refusal.{Refusal}
use Rattle.refusal.specs.declared.Refusal.TheVariants.{StateNotOpened}
use Rattle.refusal.specs.Answer.{Answer, refused, accepted, and_then, answer_of}
use Rattle.refusal.specs.Numbers.{number_of}
use Rattle.refusal.proofs.Answers.{both_accepted}
use Rattle.rule.specs.declared.Figures.{Figures}
use Rattle.rule.specs.Body.{body}
use Rattle.rule.specs.Figures.{figures, body_figures}
use Rattle.rule.proofs.Limits.{within_limits}
use Rattle.nodes.specs.Table.{Cleared}
use Rattle.figure_limits.specs.Answers.{KeptOrCleared}
use Rattle.figures.specs.Prepared.{Leaves, Prepared}
use Rattle.figures.proofs.Bodies.{kept_leaves}
use Rattle.demand.specs.Contract.{must, room, as_21, fit_opened, admit_lengths}
use Rattle.admission.specs.Admitted.{FiguresWithin, Admitted}

-- Accepted figures are within the limits.
pub small : (b : List ℕ) (f : Figures) → body_figures b ≡ accepted f → FiguresWithin f
unfolding body_figures
small b f e =
    let a = both_accepted (body b) figures f e in
    let w = within_limits a.0 f a.2 in
    record { short = w.short; old = w.old; few = w.few }

module _ (b : List ℕ) (a : Result Figures Refusal) (told_is : answer_of a ≡ body_figures b) where
  pub sized_small : {f : Figures} → a ≡ Ok f → FiguresWithin f
  sized_small {f} e = small b f (sym told_is ∙ ap answer_of e)

  pub opening_refused : (h c : ℕ) {x : Refusal} → a ≡ Err x → refused (number_of x) ≡ and_then (body_figures b) (room h c)
  unfolding and_then
  opening_refused h c e = rw (← told_is, e)

  pub opening_fits : (h c : ℕ) {f : Figures} (r : Answer Figures) → a ≡ Ok f → r ≡ room h c f → r ≡ and_then (body_figures b) (room h c)
  unfolding and_then
  opening_fits h c r e i = i ∙ rw (← told_is, e)

module _ (b : List ℕ) (L t h c n : ℕ) (ns : List ℕ) where
  pub step_above : 4096 < L → Cleared ns → Admitted b L t h c n (Err StateNotOpened) ns
  unfolding admit_lengths must
  step_above i z = record { answer = simp (lt-leb L 4096 i); leaves = z }

  module _ (a : Result Figures Refusal) (low : L ≤ 4096) (p : Prepared b a ns) where
    pub step_no_rule : {x : Refusal} → a ≡ Err x → Admitted b L t h c n (Err StateNotOpened) ns
    unfolding admit_lengths must and_then as_21
    step_no_rule e =
        record { answer = simp (le-leb L 4096 low, ← p.answer, e); leaves = subst (Leaves b ns) (ap answer_of e) p.leaves }

    pub step_fits : {f : Figures} (r : Result Figures Refusal) (last : List ℕ) → a ≡ Ok f → answer_of r ≡ fit_opened f L t h c n → KeptOrCleared (answer_of r) ns last
        → Admitted b L t h c n r last
    unfolding admit_lengths must and_then as_21 fit_opened
    step_fits r last e i k =
        record {
          answer = i ∙ simp (le-leb L 4096 low, ← p.answer, e);
          leaves = kept_leaves b ns last (answer_of r) (subst (Leaves b ns) (ap answer_of e) p.leaves) k;
        }
