-- The answers of the functions on sets as C hears them.
use Prim.Native.Nat.{ℕ}
use mathlib.Core.Path.{◌≡◌, refl, sym, ap, subst, ◌∙◌}
use mathlib.Core.List.{List}
use lib.ListN.{length}
use Rattle.refusal.specs.declared.Refusal.{Refusal}
use Rattle.refusal.specs.Answer.{Answer, refused, accepted, and_then, number, or_kept, answered}
use Rattle.refusal.specs.Numbers.{number_of}
use Rattle.refusal.proofs.Answers.{not_accepted, same_value, same_refusal}
use Rattle.refusal.proofs.Positive.{positive}
use Rattle.rule.specs.declared.Figures.{Figures}
use Rattle.demand.specs.SetContract.{all_cells, all_delays, largest}
use Rattle.set_admission.specs.declared.sheet_figures.SetFigures.{SetFigures}
use Rattle.set_admission.specs.Together.{summed, sums_of}

-- A refusal's number is not 0, so C's number and whatever stands beside it are that refusal.
answered_refused : {A : Type 0} (refusal : Refusal) (given : ℕ) (value : A) → given ≡ number_of refusal → answered given value ≡ refused (number_of refusal)
answered_refused refusal given value e = let z = positive refusal in rw (e, z.1) refl

-- What is promised of an answer that is a refusal is promised of C's number of it.
pub as_number : {A B : Type 0} (P : Answer A → Type 0) (stands_for : B → Answer A) (answer case : B) (refusal : Refusal) → P (stands_for answer) → answer ≡ case
    → stands_for case ≡ refused (number_of refusal) → (given : ℕ) (value : A) → given ≡ number_of refusal → P (answered given value)
as_number P stands_for answer case refusal p e i given value n =
    subst P (ap stands_for e ∙ i ∙ sym (answered_refused refusal given value n)) p

-- What the four numbers hold after the figures of a sheet were asked for.
abbrev pub FiguresLeft : Answer (List Figures) → ℕ → ℕ → ℕ → ℕ → ℕ → ℕ → ℕ → ℕ → ℕ → Type 0
FiguresLeft answer r rules history cells pairs rules' history' cells' pairs' =
    (r ≡ number answer) × ((rules' ≡ or_kept length answer rules) × ((history' ≡ or_kept largest answer history) × ((cells' ≡ or_kept all_cells answer cells) × (pairs' ≡ or_kept all_delays answer pairs))))

pub figures_refused : (answer : Answer (List Figures)) (refusal : Refusal) → refused (number_of refusal) ≡ summed answer
    → (r rules history cells pairs : ℕ) → r ≡ number_of refusal → FiguresLeft answer r rules history cells pairs rules history cells pairs
unfolding and_then
figures_refused (refused given) refusal said r rules history cells pairs i = (i ∙ same_refusal said, (refl, (refl, (refl, refl))))
figures_refused (accepted figures) refusal said r rules history cells pairs i = absurd (not_accepted said)

pub figures_sized : (answer : Answer (List Figures)) (sums : SetFigures) → accepted sums ≡ summed answer
    → (rules history cells pairs : ℕ) → FiguresLeft answer 0 rules history cells pairs sums.rules sums.history sums.cells sums.pairs
unfolding and_then
figures_sized (refused given) sums said rules history cells pairs = absurd (not_accepted (sym said))
figures_sized (accepted figures) sums said rules history cells pairs =
    let same : sums ≡ sums_of figures = same_value said in
    (refl, (ap (λ (s : SetFigures). s.rules) same, (ap (λ (s : SetFigures). s.history) same, (ap (λ (s : SetFigures). s.cells) same, ap (λ (s : SetFigures). s.pairs) same))))
