-- A calendar kept beside the stream, document 02, point 5: the words go from call to call as the state does, and agree with the stream all along. What opening, step
-- and batch promise is as without a calendar (Contract.antt), of a state that is carried with the words beside it.
use Rattle.std.specs.Prelude.{ℕ, ◌*◌, ◌/◌, ◌≤◌, ◌<◌, ◌≡◌, false, List, length, take, drop}
use Rattle.refusal.specs.Answer.{accepted}
use Rattle.calendar.specs.Search.{tally, earliest, latest, nearest}
use Rattle.calendar.specs.Calendar.{kept, up_at, flag_up, span, ups, first_up, last_up, nearest_up, cleared, filled}
use Rattle.demand.specs.Contract.{State, Opening, Invariant, Carrier, OpenPromise}
use Rattle.demand.specs.Demand.{Call, stream, Run, done, stepped, with_other_history, batched, batch_with_other_history, wrote}

-- A state that is carried with the words of a calendar beside it. An accepted opening zeroes them, a last group under eight excepted; the flag bytes that were taken are
-- marked at their ticks, from the state's next one on. A refused call changes no word (`left` of the promises).
abbrev pub with_calendar : Carrier → Carrier
with_calendar carrier =
    record {
      Carried = carrier.Carried × List ℕ;
      holds = λ both. carrier.holds both.0;
      fresh = λ both body L. (carrier.fresh both.0 body L, cleared both.1);
      moved = λ both flags next live. (carrier.moved both.0 flags next live, filled both.1 (carrier.holds both.0).next flags);
    }

-- `Throughout P run`: P holds of what is carried, and of how many ticks were taken, at the start of the list of calls and after each of them.
abbrev pub Throughout : {Stands : Invariant} {carrier : Carrier} {h L : ℕ} {carried : carrier.Carried} {table history : List ℕ} {t : ℕ} {calls : List Call}
    → (carrier.Carried → ℕ → Type 0) → Run Stands carrier h L carried table history t calls → Type 0
Throughout P (done {carried = carried} {t = t}) = P carried t
Throughout P (stepped {carried = carried} {t = t} count own lent promise run) = P carried t × Throughout P run
Throughout P (with_other_history {carried = carried} {t = t} count other lent promise run) = P carried t × Throughout P run
Throughout P (batched {carried = carried} {t = t} count own lent promise run) = P carried t × Throughout P run
Throughout P (batch_with_other_history {carried = carried} {t = t} number answered promise run) = P carried t × Throughout P run
Throughout P (wrote {carried = carried} {t = t} as_long same run) = P carried t × Throughout P run

-- The words after t ticks of the stream, where `lent` are those that the opening was given. Each kept tick that was taken has its flags, and all others are 0; a last
-- group under eight is as it was lent; and what the four questions answer is so of the ticks taken.
pub record Agrees (lent bytes words : List ℕ) (t : ℕ) : Type 0 where
  pub words_are : words ≡ filled (cleared lent) 0 (take t bytes)
  pub as_many : length words ≡ length lent
  pub last_group : drop (8 * (length lent / 8)) words ≡ drop (8 * (length lent / 8)) lent
  pub taken_ticks : (k q : ℕ) → k < 8 → q < kept lent → q < t → up_at words k q ≡ flag_up bytes k q
  pub other_ticks : (k q : ℕ) → k < 8 → q < kept lent → t ≤ q → up_at words k q ≡ false
  pub ups_are : (k first last : ℕ) → k < 8 → ups words k first last ≡ tally (flag_up (take t bytes) k) first (span (kept lent) first last)
  pub first-is : (k first last : ℕ) → k < 8 → first_up words k first last ≡ earliest (flag_up (take t bytes) k) first (span (kept lent) first last)
  pub last_is : (k first last : ℕ) → k < 8 → last_up words k first last ≡ latest (flag_up (take t bytes) k) first (span (kept lent) first last)
  pub nearest_is : (k p : ℕ) → k < 8 → nearest_up words k p ≡ nearest (flag_up (take t bytes) k) p (kept lent)

-- "The words agree with the stream after every list of steps that each get all the words as the last left them": from an accepted opening that was lent words, throughout
-- every list of calls, refused ones and foreign writings into any history bytes (h = 0 in the list) included, over the stream of the WHOLE list.
abbrev pub CalendarKept : Invariant → Carrier → Type 0
CalendarKept Stands carrier =
    (before after : (with_calendar carrier).Carried) (opening : Opening) → OpenPromise Stands (with_calendar carrier) before opening after
    → (state : State) → opening.answer ≡ accepted state
    → (h : ℕ) (calls : List Call)
    → (run : Run Stands (with_calendar carrier) h (length opening.history) after opening.table' opening.history' 0 calls)
    → Throughout (λ both t. Agrees before.1 (stream calls) both.1 t) run
