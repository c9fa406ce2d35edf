-- Opening a set keeps its promise, by what its parts answered.
use Prim.Native.Nat.{ℕ}
use mathlib.Core.Path.{◌≡◌, refl, ap, ◌∙◌}
use mathlib.Core.List.{List, ◌++◌}
use lib.ListN.{length, get_or, take, drop, replicate}
use lib.Seq.{take_at}
use Rattle.std.specs.Prelude.{Result, Ok, Err}
use Rattle.refusal.specs.declared.Refusal.{Refusal}
use Rattle.refusal.specs.Answer.{Answer, refused, accepted}
use Rattle.refusal.specs.Numbers.{number_of}
use Rattle.sheet.specs.Sheet.{rule_count}
use Rattle.rule.specs.declared.Figures.{Figures}
use Rattle.demand.specs.declared.Running.{Running}
use Rattle.demand.specs.SetContract.{no_rule, rule_state, running_rules, set_figures, admit_set_lengths, opened_rules, set_opening_of, SetOpenPromise}
use Rattle.demand.proofs.SetRules.{opened_rules_length, RoomTold, opening_told}
use Rattle.cell_runs.specs.Moves.{Stands}
use Rattle.cell_runs.proofs.Rules.{stands_at_start}
use Rattle.set_admission.specs.declared.sheet_figures.SetFigures.{SetFigures}
use Rattle.set_admission.specs.Together.{sums_of, summed}
use Rattle.set_admission.proofs.Added.{summed_refused, summed_accepted}
use Rattle.set_admission.proofs.Judged.{Together, together}
use Rattle.set_opening.specs.Opening.{set_open_answer, Openable}
use Rattle.set_opening.proofs.Writes.{not_begun}

-- m records are lent.
module _ (s : List ℕ) (records : List Running) (history cells : List ℕ) (m : ℕ) (m_is : length records ≡ m) where
  abbrev Promised : Result (Unit {0}) Refusal → List Running → List ℕ → Type 0
  Promised o records' history' = SetOpenPromise Stands (set_opening_of (set_open_answer o s records') s records history cells records' history')

  admit_is : (x : Answer (List Figures)) → admit_set_lengths s (length history) (length cells) m ≡ x
      → admit_set_lengths s (length history) (length cells) (length records) ≡ x
  admit_is x e = rw m_is e

  pub open_refused : (x : Refusal) → refused (number_of x) ≡ summed (admit_set_lengths s (length history) (length cells) m) → Promised (Err x) records history
  open_refused x e = (admit_is (refused (number_of x)) (summed_refused _ _ e), (refl, (refl, refl)))

  -- The rules are admitted, and need this.
  module _ (sums : SetFigures) (sized_is : accepted sums ≡ summed (admit_set_lengths s (length history) (length cells) m)) where
    admitted : (fs : List Figures) × (admit_set_lengths s (length history) (length cells) m ≡ accepted fs) × (sums ≡ sums_of fs)
    admitted = summed_accepted _ sized_is

    abbrev fs : List Figures
    fs = admitted.0

    told : (set_figures s ≡ accepted fs) × RoomTold (length history) (length cells) m fs
    told = opening_told s (length history) (length cells) m fs admitted.1

    known : Together s fs
    known = together s fs told.0

    pub openable : Openable s m sums.rules (length history)
    openable =
        let e : sums.rules ≡ length fs = ap (λ (x : SetFigures). x.rules) admitted.2 in
        record {
          figures = fs;
          figures_are = told.0;
          count-is = e;
          room = rw e told.1.records_there;
          low = told.1.history_high;
        }

    pub open_keeps : (records' : List Running) (history' : List ℕ)
        → ((figures : List Figures) → set_figures s ≡ accepted figures → records' ≡ opened_rules s (length history) 0 0 figures ++ drop (length figures) records)
        → history' ≡ replicate (length history) 0 → Promised (Ok tt) records' history'
    open_keeps records' history' written zeroed =
        let given = running_rules s records' in
        let opened = opened_rules s (length history) 0 0 fs in
        let e : records' ≡ opened ++ drop (length fs) records = written fs told.0 in
        let n : length opened ≡ length fs = opened_rules_length s (length history) 0 0 fs in
        let g : given ≡ opened = ap (take (rule_count s)) e ∙ take_at opened (drop (length fs) records) (rule_count s) (n ∙ known.as_many) in (
          fs,
          admit_is (accepted fs) admitted.1,
          record {
            rules = g;
            records_are = e ∙ rw (g, n) refl;
            zeroed = zeroed;
            table_length = refl;
            table_rest = refl;
            stands = λ i h flags. stands_at_start (rule_state s (get_or given i no_rule)) flags _ (rw g (not_begun s (length history) fs 0 0 i));
          },
        )
