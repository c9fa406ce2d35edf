-- A state as 544 lent bytes: the room of the body, 512 bytes, then four 64-bit numbers, low byte first: the body's size at 512, the opened
-- history's length at 520, the next tick at 528, the live count at 536.
use Rattle.std.specs.Prelude.{ℕ, ◌<◌, ◌≡◌, List, ◌++◌, length, take}
use Rattle.demand.specs.Contract.{State, Carrier}
use Rattle.engine.specs.declared.state.State as code
use Rattle.engine.specs.States.{state_of, fresh_code}
use Rattle.state_bytes.specs.Numbers.{low_bytes, number_at}

-- The engine's state that bytes hold, and the state that it stands for.
unfoldable pub loaded : List ℕ → code.State
loaded bytes =
    record {
      body = take 512 bytes;
      size = number_at bytes 512;
      opened = number_at bytes 520;
      next = number_at bytes 528;
      live = number_at bytes 536;
    }

unfoldable pub state_in : List ℕ → State
state_in bytes = state_of (loaded bytes)

-- The bytes that hold a state.
unfoldable pub stored : code.State → List ℕ
stored state = (((state.body ++ low_bytes 8 state.size) ++ low_bytes 8 state.opened) ++ low_bytes 8 state.next) ++ low_bytes 8 state.live

-- A state that 544 bytes can hold: 512 bytes of room for the body, and numbers that fit 64 bits.
pub record Storable (state : code.State) : Type 0 where
  pub room : length state.body ≡ 512
  pub size_fits : state.size < 18446744073709551616
  pub opened_fits : state.opened < 18446744073709551616
  pub next_fits : state.next < 18446744073709551616
  pub live_fits : state.live < 18446744073709551616

-- Bytes that have come to another next tick and live count.
unfoldable pub moved_bytes : List ℕ → ℕ → ℕ → List ℕ
moved_bytes bytes next live = (take 528 bytes ++ low_bytes 8 next) ++ low_bytes 8 live

-- A state that is carried as bytes.
abbrev pub in_bytes : Carrier
in_bytes = record { Carried = List ℕ; holds = state_in; fresh = λ bytes body L. stored (fresh_code body L); moved = λ bytes flags. moved_bytes bytes }
