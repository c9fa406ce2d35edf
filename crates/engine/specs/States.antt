-- What a state of the code stands for, and which states the calls give.
use Rattle.std.specs.Prelude.{ℕ, ◌-◌, cond, List, [], ◌++◌, leb, length, replicate, take, Result, Ok, Err}
use Rattle.refusal.specs.declared.Refusal.{Refusal}
use Rattle.refusal.specs.declared.Refusal.TheVariants.{StateNotOpened}
use Rattle.demand.specs.Contract.{State, Carrier}
use Rattle.engine.specs.declared.state.State as code

-- Its rule's body is the first `size` bytes; a size above 512, which no opening gives, stands for an empty body, and so for no rule.
unfoldable pub state_of : code.State → State
state_of state =
    record {
      body_bytes = cond (leb state.size 512) (take state.size state.body) [];
      opened = state.opened;
      next = state.next;
      live_count = state.live;
    }

-- The body as a step reads it: a size above 512 is refused.
unfoldable pub body_of : code.State → Result (List ℕ) Refusal
body_of state = cond (leb state.size 512) (Ok (take state.size state.body)) (Err StateNotOpened)

-- A rule's body in the 512 bytes that a state has for it, with 0 in the rest.
unfoldable pub padded : List ℕ → List ℕ
padded body = body ++ replicate (512 - length body) 0

-- The state of an accepted opening; one with an empty body, which every step refuses by 21; and one that has come to another next tick and live count.
abbrev pub fresh_code : List ℕ → ℕ → code.State
fresh_code body L = record { body = padded body; size = length body; opened = L; next = 0; live = 0 }

abbrev pub blank_code : code.State
blank_code = record { body = padded []; size = 0; opened = 0; next = 0; live = 0 }

abbrev pub moved_code : code.State → ℕ → ℕ → code.State
moved_code state next live = record { body = state.body; size = state.size; opened = state.opened; next = next; live = live }

-- A state that is carried as a value.
abbrev pub by_value : Carrier
by_value = record { Carried = code.State; holds = state_of; fresh = λ state. fresh_code; moved = λ state flags. moved_code state }
