-- Opening keeps its promise, by what its parts answered.
use Prim.Native.Nat.{ℕ, ◌+◌, ◌-◌, ◌≤◌}
use mathlib.Core.Path.{◌≡◌, refl, sym, ap, ◌∙◌}
use mathlib.Core.List.{List}
use native.Mathlib.Nat.{add-sub_cancel_left}
use lib.ListN.{length, take, drop}
use Rattle.std.specs.Prelude.{Result, Ok, Err}
use Rattle.refusal.specs.declared.Refusal.{Refusal}
use Rattle.refusal.specs.Answer.{accepted, and_then, answer_of}
use Rattle.refusal.specs.Numbers.{number_of}
use Rattle.sheet.specs.Sheet.{rule_place, rule_body, body_part}
use Rattle.sheet.specs.declared.reader.BodyPlace.{BodyPlace}
use Rattle.sheet.proofs.Entries.{place_inside, body_at, body_refused}
use Rattle.sheet.proofs.Bodies.{body_size}
use Rattle.rule.specs.declared.Figures.{Figures}
use Rattle.rule.specs.Figures.{body_figures}
use Rattle.demand.specs.Contract.{room, fresh_state, opening_of, OpenPromise}
use Rattle.cell_runs.specs.Moves.{Stands}
use Rattle.cell_runs.proofs.Rules.{stands_at_start}
use Rattle.engine.specs.declared.state.State as code
use Rattle.engine.specs.States.{state_of, fresh_code, blank_code, by_value}
use Rattle.engine.specs.Promises.{open_answer, opened_state, BodyOpened}
use Rattle.engine.proofs.States.{fresh_is}

-- ---- opening the rule with a body

module _ (b history : List ℕ) (cells : ℕ) (a : Result Figures Refusal) (told_is : answer_of a ≡ and_then (body_figures b) (room (length history) cells)) where
  pub not_opened : {x : Refusal} → a ≡ Err x → BodyOpened b history cells (Err x) history
  not_opened e = (sym told_is ∙ ap answer_of e, refl)

  pub body_accepted : {f : Figures} → a ≡ Ok f → (g : Figures) × (and_then (body_figures b) (room (length history) cells) ≡ accepted g)
  body_accepted {f} e = (f, sym told_is ∙ ap answer_of e)

-- ---- opening a rule of a sheet

module _ (sheet : List ℕ) (number : ℕ) (place_of : Result BodyPlace Refusal) (found_is : answer_of place_of ≡ rule_place sheet number) where
  module _ (place : BodyPlace) (e : place_of ≡ Ok place) where
    place_is : rule_place sheet number ≡ accepted place
    place_is = sym found_is ∙ ap answer_of e

    -- the part at the place that was found lies in the sheet, and is the body
    pub part_inside : place.start + place.size ≤ length sheet
    part_inside = place_inside sheet number place.start place.size place_is

    pub part_is : rule_body sheet number ≡ accepted (take (place.start + place.size - place.start) (drop place.start sheet))
    part_is = rw (add-sub_cancel_left place.start place.size) (body_at sheet number place place_is)

    pub part_size : length (take (place.start + place.size - place.start) (drop place.start sheet)) ≤ 512
    part_size = (body_size sheet number _ part_is).1

  module _ (history cells : List ℕ) where
    -- an opening that answered this
    abbrev Promised : Result code.State Refusal → List ℕ → Type 0
    Promised r history' = OpenPromise Stands by_value blank_code (opening_of (open_answer r) sheet number history cells history') (opened_state r)

    pub open_refused : {x : Refusal} → place_of ≡ Err x → Promised (Err x) history
    unfolding and_then
    open_refused {x} e = record { keeps = (rw (body_refused sheet number (number_of x) (sym found_is ∙ ap answer_of e)) refl, refl, refl); left = refl; goes_on = tt }

    pub open_body_keeps : (part : List ℕ) (r : Result code.State Refusal) (history' : List ℕ) → rule_body sheet number ≡ accepted part → length part ≤ 512
        → BodyOpened part history (length cells) r history' → Promised r history'
    unfolding and_then
    open_body_keeps part (Ok state) history' is short v =
        let s : state_of state ≡ fresh_state part (length history) = ap state_of v.1.0 ∙ fresh_is part (length history) short in
        record {
          keeps = (
            part,
            v.0.0,
            is,
            rw is v.0.1,
            record {
              state = s;
              zeroed = v.1.1;
              table_length = refl;
              table_rest = refl;
              stands = λ flags. stands_at_start (state_of state) flags _ (rw s refl);
            },
          );
          left = v.1.0 ∙ ap (λ (b : List ℕ). fresh_code b (length history)) (sym (ap body_part is));
          goes_on = refl;
        }
    open_body_keeps part (Err x) history' is short v = record { keeps = (rw is v.0, v.1, refl); left = refl; goes_on = tt }
