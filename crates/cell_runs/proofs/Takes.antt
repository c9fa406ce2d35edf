-- What admission says of a step and of a batch: a tick that is admitted fits, and moving it takes it; a refusal changes nothing.
use Prim.Native.Nat.{ℕ}
use mathlib.Core.Path.{◌≡◌, refl, sym, ap, subst, ◌∙◌}
use mathlib.Core.List.{List, [], ◌∷◌}
use Rattle.std.specs.Prelude.{Result, Ok, Err}
use Rattle.refusal.specs.declared.Refusal.{Refusal}
use Rattle.refusal.specs.Answer.{refused, accepted, answer_of}
use Rattle.refusal.specs.Numbers.{number_of}
use Rattle.rule.specs.declared.Figures.{Figures}
use Rattle.rule.specs.Body.{body}
use Rattle.rule.specs.Figures.{at_tick}
use Rattle.reader.specs.Decoded as decoded
use Rattle.figures.specs.Measured.{SizesAt}
use Rattle.figures.specs.Prepared.{SizedTable, Leaves}
use Rattle.demand.specs.Contract.{state_at, admit_lengths}
use Rattle.demand.proofs.Admission.{StepAdmitted, step_admitted}
use Rattle.admission.specs.Admitted.{Admitted}
use Rattle.cell_runs.specs.Moves.{TableOf, TickFit}
use Rattle.cell_runs.specs.Batches.{BatchFit}

module _ (b : List ℕ) (L t h c n : ℕ) (a : Result Figures Refusal) (ns : List ℕ) (admits : Admitted b L t h c n a ns) where
  pub admitted_as : {f : Figures} → a ≡ Ok f → admit_lengths b L t h c n ≡ accepted f
  admitted_as e = sym admits.answer ∙ ap answer_of e

  pub refused_as : {x : Refusal} → a ≡ Err x → admit_lengths b L t h c n ≡ refused (number_of x)
  refused_as e = sym admits.answer ∙ ap answer_of e

  module _ (f : Figures) (sized : a ≡ Ok f) where
    known : StepAdmitted b L t h c n f
    known = step_admitted b L t h c n f (admitted_as sized)

    pub table_of : (live : ℕ) → TableOf ns f h t (state_at b L t live)
    table_of live =
        let laid : SizedTable ns (body b) = subst (Leaves b ns) (ap answer_of sized) admits.leaves in
        let l : decoded.TableHolds known.formula ns × SizesAt known.formula ns (at_tick ∷ []) 0 = subst (SizedTable ns) known.reads laid in
        let fits = known.history_fits in
        record {
          formula = known.formula;
          reads = known.reads;
          prepares = record { stands = l.0; sizes = l.1; within = known.within };
          opened = sym fits;
          opened_high = rw fits known.opened_high;
          opened_low = rw fits known.opened_low;
          next = refl;
        }

    pub tick_fits : TickFit ns f h t c n
    tick_fits =
        record {
          state = state_at b L t 0;
          table_of = table_of 0;
          low = known.tick_left;
          cells_fit = known.cells_fit;
          report_fits = known.report_fits;
        }

    pub flags_fit : BatchFit ns f h t c
    flags_fit = record { state = state_at b L t 0; table_of = table_of 0; low = known.tick_left; cells_fit = known.cells_fit }
