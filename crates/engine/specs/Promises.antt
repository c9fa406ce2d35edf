-- What the answers of opening stand for, and what opening the rule with a body gives. The promises themselves are those of crate demand
-- (specs/Contract.antt), of a state that is carried as a value.
use Rattle.std.specs.Prelude.{ℕ, ◌≡◌, List, length, replicate, Result, Ok, Err}
use Rattle.refusal.specs.declared.Refusal.{Refusal}
use Rattle.refusal.specs.Answer.{Answer, refused, accepted, and_then}
use Rattle.refusal.specs.Numbers.{number_of}
use Rattle.rule.specs.declared.Figures.{Figures}
use Rattle.rule.specs.Figures.{body_figures}
use Rattle.demand.specs.Contract.{State, room}
use Rattle.engine.specs.declared.state.State as code
use Rattle.engine.specs.States.{state_of, fresh_code, blank_code}

abbrev pub open_answer : Result code.State Refusal → Answer State
open_answer (Ok state) = accepted (state_of state)
open_answer (Err refusal) = refused (number_of refusal)

-- The state of an accepted opening; a refused one leaves none, so it stands for no rule.
abbrev pub opened_state : Result code.State Refusal → code.State
opened_state (Ok state) = state
opened_state (Err refusal) = blank_code

-- ---- inside the crate: opening the rule with this body

abbrev pub BodyOpened : List ℕ → List ℕ → ℕ → Result code.State Refusal → List ℕ → Type 0
BodyOpened body history table (Ok state) history' =
    ((figures : Figures) × (and_then (body_figures body) (room (length history) table) ≡ accepted figures))
    × ((state ≡ fresh_code body (length history)) × (history' ≡ replicate (length history) 0))
BodyOpened body history table (Err refusal) history' =
    (and_then (body_figures body) (room (length history) table) ≡ refused (number_of refusal)) × (history' ≡ history)
