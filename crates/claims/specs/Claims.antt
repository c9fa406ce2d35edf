-- The main claims that are proved of the library as a whole, as one proposition. What each call does is its contract; this says what follows for whoever uses them.
-- The link between the two is the text of contracts, which a reader should look at: the `ensures` of `open`, `step` and `steps` (crates/engine/src) and of
-- sw_open, sw_step and sw_steps (crates/exports_watch/src/watching.rt) are `OpenPromise`, `StepPromise` and `BatchPromise` of their own arguments and results, and these are
-- what the list of calls asks of each call. In the same way the functions on sets (sw_set_open, sw_set_step and sw_set_steps in crates/exports_sets/src/sets.rt; `open_set`, `step_set`,
-- `open_records` and `step_records` in crates/set_values and crates/set_records) keep `SetOpenPromise`, `SetStepPromise` and `SetBatchPromise`;
-- and sw_calendar_open, sw_calendar_step and sw_calendar_steps (crates/exports_calendar/src/keeping.rt) keep the promises of one rule, of states with a calendar beside them. docs/DEMAND-3.md reads the first part slowly.
use Rattle.std.specs.Prelude.{ℕ, ◌+◌, ◌≤◌, ◌<◌, max, ◌≡◌, ◌↔◌, true, List, [], ◌∷◌, ◌++◌, length, get_or, take, drop}
use Rattle.refusal.specs.Answer.{refused, accepted, and_then}
use Rattle.words.specs.Words.{Bytes}
use Rattle.sheet_writer.specs.Writing.{sheet_length, sheet_of, buffer_after}
use Rattle.sheet_writer.specs.RoundTrip.{ReadsBack}
use Rattle.rule.specs.declared.Verdict.{Verdict}
use Rattle.rule.specs.declared.Verdict.TheVariants.{True}
use Rattle.rule.specs.declared.Outcome.TheVariants.{Decided, Open}
use Rattle.rule.specs.declared.Size.{Size}
use Rattle.rule.specs.declared.Size.TheVariants.{Finite}
use Rattle.rule.specs.declared.Pair.{Pair}
use Rattle.rule.specs.Formula.{Bound, Formula, forall}
use Rattle.rule.specs.Body.{body, OfABody}
use Rattle.rule.specs.Meaning.{range, seen, outcome, rule}
use Rattle.rule.specs.Figures.{at_tick, range_pair, always_empty, delay, history, cells}
use Rattle.rule.specs.Positions.{Within, Fits}
use Rattle.rule.specs.Started.{Scoped, By, Before}
use Rattle.rule.specs.ForAll.{Said}
use Rattle.marked_cases.specs.Marked.{Marked}
use Rattle.marked_cases.specs.Orders.{Limits, Orders, Bounds}
use Rattle.marked_cases.specs.EmptyRanges.{EmptyRanges}
use Rattle.marked_cases.specs.Runs.{ExampleRun, Recorded}
use Rattle.notation.specs.Notation.{Rule, Reads}
use Rattle.notation.specs.Bodies.{named_body, checked, fitted, body_of_text, Misspelt, Unbound}
use Rattle.notation.specs.Printing.{text_of_body}
use Rattle.demand.specs.declared.Running.{Running}
use Rattle.demand.specs.Contract.{fresh_state}
use Rattle.demand.specs.Demand.{Demanded}
use Rattle.demand.specs.SetDemand.{SetDemanded, AsAlone}
use Rattle.demand.specs.CalendarDemand.{with_calendar, CalendarKept}
use Rattle.calendar.specs.Calendar.{kept, ups, first_up, last_up, nearest_up}
use Rattle.calendar.specs.Said.{UpsIn, FirstUp, LastUp, NearestUp}
use Rattle.cell_runs.specs.Moves.{Stands}
use Rattle.engine.specs.declared.state.State as code
use Rattle.engine.specs.States.{state_of, fresh_code, moved_code, by_value}
use Rattle.state_bytes.specs.Numbers.{number_at}
use Rattle.exports_questions.specs.Ticks.{NoneTold}
use Rattle.state_bytes.specs.States.{loaded, stored, Storable, moved_bytes, in_bytes}
use Rattle.running.specs.Records.{rule_in, words_of}
use Rattle.ranges.specs.Clamped.{clamped}

pub record Claims : Type 0 where
  -- ---- watching a stream

  -- Demand 3: after every call of `open`, about every list of calls of `step` and `steps`; and after every call of sw_open, about every list of calls of
  -- sw_step and sw_steps.
  pub of_values : Demanded Stands by_value
  pub of_bytes : Demanded Stands in_bytes
  -- The same of a whole sheet at once (02, point 4): after every opening of a set, about every list of its steps and batches. And beside any run of one of its rules
  -- opened by itself, with its state as bytes, over the same flags, the rule's ticks among the pairs and its live count are the same, step by step.
  pub of_sets : SetDemanded Stands
  pub as_alone : AsAlone Stands Stands in_bytes
  -- The same with a flag calendar kept beside the stream (02, point 5): after every call of sw_calendar_open, about every list of calls of sw_calendar_step and
  -- sw_calendar_steps. And throughout that list the words agree with the stream.
  pub of_calendars : Demanded Stands (with_calendar in_bytes)
  pub words_agree : CalendarKept Stands in_bytes
  -- The value that an opening gives holds 01's state of an opening.
  pub value_fresh : (bytes : List ℕ) (L : ℕ) → length bytes ≤ 512 → state_of (fresh_code bytes L) ≡ fresh_state bytes L
  -- State bytes that have come to another next tick and live count load as the state that has come to them; with their own two, they are as they were.
  pub bytes_moved : (bytes : List ℕ) (next live : ℕ) → length bytes ≡ 544 → next < 18446744073709551616 → live < 18446744073709551616
      → loaded (moved_bytes bytes next live) ≡ moved_code (loaded bytes) next live
  pub bytes_kept : (bytes : List ℕ) → Bytes bytes → length bytes ≡ 544 → moved_bytes bytes (number_at bytes 528) (number_at bytes 536) ≡ bytes
  -- A state is stored as bytes that load as that state, and bytes that were loaded are stored as they were.
  pub state_back : (state : code.State) → Storable state → loaded (stored state) ≡ state
  pub bytes_back : (bytes : List ℕ) → Bytes bytes → length bytes ≡ 544 → stored (loaded bytes) ≡ bytes
  -- At positions up to 2^62, which no step takes, the positions that the code works out by sums in signed 64 bits (`ranges::range_at`) are those of the meaning.
  pub sums_exact : (B₁ B₂ : Bound) (pos : List ℕ) → ((variable : ℕ) → get_or pos variable 0 ≤ 4611686018427387904) → range B₁ B₂ (clamped pos) ≡ range B₁ B₂ pos
  -- The eight words of a set's record tell its rule, and the rule the words: what is said of the rules in lent records is said of each word.
  pub rule_back : (rule : Running) → rule.delay < 65536 → rule_in (words_of rule) ≡ rule
  pub words_back : (words : List ℕ) → length words ≡ 8 → get_or words 6 0 < 4294967296 → words_of (rule_in words) ≡ words
  -- ---- what a rule means: the outcome over the ticks 0..t of a formula started at step s

  -- For all is 01's sentence.
  pub for_all : (B₁ B₂ : Bound) (F : Formula) (flags : ℕ → ℕ) (t : ℕ) (env : List ℕ) (s : ℕ)
      → Said (range B₁ B₂ env) (λ q. seen t q (outcome F flags t (env ++ (q ∷ [])) (max s q))) t s (outcome (forall B₁ B₂ F) flags t env s)
  -- A decision's step is from s to t; what is decided stays; what was open until now and is decided, is decided now.
  pub not_before : (F : Formula) (flags : ℕ → ℕ) (env : List ℕ) (s t step : ℕ) (verdict : Verdict)
      → outcome F flags t env s ≡ Decided verdict step → s ≤ step
  pub not_after : (F : Formula) (flags : ℕ → ℕ) (env : List ℕ) (s t step : ℕ) (verdict : Verdict) → s ≤ t
      → outcome F flags t env s ≡ Decided verdict step → step ≤ t
  pub stays : (F : Formula) (flags : ℕ → ℕ) (env : List ℕ) (s t step : ℕ) (verdict : Verdict) → s ≤ t
      → outcome F flags t env s ≡ Decided verdict step → outcome F flags (t + 1) env s ≡ Decided verdict step
  pub now_decided : (F : Formula) (flags : ℕ → ℕ) (env : List ℕ) (s t step : ℕ) (verdict : Verdict)
      → Before s t (λ earlier. outcome F flags earlier env s ≡ Open) → outcome F flags t env s ≡ Decided verdict step → t ≡ step
  -- With a delay within a limit, it is decided by max(s, p + limit), where p is the rule's tick.
  pub in_time : (F : Formula) {p : ℕ} {ps : List Pair} {env : List ℕ} → Fits p ps env → (limit : ℕ) → Within (delay F ps) limit
      → (flags : ℕ → ℕ) (t s : ℕ) → max s (p + limit) ≤ t → By (max s (p + limit)) (outcome F flags t env s)
  -- Bytes above t do not matter; nor, to a rule whose history is this figure, do those before p - figure.
  pub none_later : (F : Formula) (flags others : ℕ → ℕ) (t : ℕ) → ((tick : ℕ) → tick ≤ t → flags tick ≡ others tick)
      → (env : List ℕ) → ((variable : ℕ) → get_or env variable 0 ≤ t) → (s : ℕ) → outcome F flags t env s ≡ outcome F others t env s
  pub none_older : (F : Formula) (figure : ℕ) → Scoped 1 F → history F (at_tick ∷ []) (Finite 0) ≡ Finite figure → (t p : ℕ) → p ≤ t
      → (flags others : ℕ → ℕ) → ((tick : ℕ) → p ≤ tick + figure → tick ≤ t → flags tick ≡ others tick) → rule F flags t p ≡ rule F others t p
  -- A range whose l is infinity, or greater than its u (02, point 6), is true at its start, whatever the flags and its body, and its figures are delay 0,
  -- history 0 and one cell.
  pub empty_is_true : (B₁ B₂ : Bound) (F : Formula) {p : ℕ} {ps : List Pair} {env : List ℕ} → Fits p ps env → always_empty (range_pair B₁ B₂ ps) ≡ true
      → (flags : ℕ → ℕ) (t s : ℕ) → outcome (forall B₁ B₂ F) flags t env s ≡ Decided True s
  pub empty_delay : (B₁ B₂ : Bound) (F : Formula) (ps : List Pair) → always_empty (range_pair B₁ B₂ ps) ≡ true → delay (forall B₁ B₂ F) ps ≡ Finite 0
  pub empty_history : (B₁ B₂ : Bound) (F : Formula) (ps : List Pair) → always_empty (range_pair B₁ B₂ ps) ≡ true
      → (k : Size) → history (forall B₁ B₂ F) ps k ≡ Finite 0
  pub empty_cells : (B₁ B₂ : Bound) (F : Formula) (ps : List Pair) → always_empty (range_pair B₁ B₂ ps) ≡ true → cells (forall B₁ B₂ F) ps ≡ Finite 1
  -- ---- questions to a flag calendar, said of each tick: in a range cut at the last kept tick the number of ups, the first and the last; of all kept ticks the nearest up, the
  -- earlier of two equally near; none exactly where no such tick is up, also as C hears it

  pub ups_are : (words : List ℕ) (k first last : ℕ) → UpsIn words k first last (ups words k first last)
  pub first_up_is : (words : List ℕ) (k first last : ℕ) → FirstUp words k first last (first_up words k first last)
  pub last_up_is : (words : List ℕ) (k first last : ℕ) → LastUp words k first last (last_up words k first last)
  pub nearest_up_is : (words : List ℕ) (k t : ℕ) → NearestUp words k t (nearest_up words k t)
  pub none_told : (words : List ℕ) → kept words ≤ 18446744073709551615 → NoneTold words
  -- ---- sheets and bodies

  -- A written sheet reads back as the same bodies, and no other.
  pub sheet_back : (lengths bodies : List ℕ) (room size : ℕ) → sheet_length lengths bodies room ≡ accepted size → ReadsBack lengths bodies size
  -- It is the first bytes of the buffer, as many as the writer answers; the bytes after them keep their content.
  pub sheet_front : (lengths bodies out : List ℕ) (size : ℕ) → sheet_length lengths bodies (length out) ≡ accepted size
      → take size (buffer_after lengths bodies out) ≡ sheet_of lengths bodies
  pub sheet_rest : (lengths bodies out : List ℕ) (size : ℕ) → sheet_length lengths bodies (length out) ≡ accepted size
      → drop size (buffer_after lengths bodies out) ≡ drop size out
  -- A formula has at most one body; a body is refused only with 4 to 10, 23 and 24, and has at most 432 bytes where it is not.
  pub one_body : (first second : List ℕ) (F : Formula) → Bytes first → Bytes second → body first ≡ accepted F → body second ≡ accepted F → first ≡ second
  pub body_refusals : (bytes : List ℕ) (number : ℕ) → body bytes ≡ refused number → OfABody number
  pub body_short : (bytes : List ℕ) (F : Formula) → body bytes ≡ accepted F → length bytes ≤ 432
  -- ---- rules as text

  -- A text has at most one reading. It is answered as that reading's body, with the refusals of a body and last 22.
  pub one_reading : (text : List ℕ) (first second : Rule) → Reads text first → Reads text second → first ≡ second
  pub text_answered : (text : List ℕ) (reading : Rule) (room : ℕ) → length text ≤ 4096 → Reads text reading
      → body_of_text text room ≡ and_then (and_then (named_body reading) checked) (fitted room)
  -- Where bytes are answered, the text has a reading, and they are a body and fit.
  pub text_accepted : (text bytes : List ℕ) (room : ℕ) → body_of_text text room ≡ accepted bytes
      → (reading : Rule) × Reads text reading × (F : Formula) × (body bytes ≡ accepted F) × (length bytes ≤ room)
  -- 25 comes exactly where there is no reading or the text is too long, and 26 exactly where the reading names what is not bound.
  pub text_25 : (text : List ℕ) (room : ℕ) → (body_of_text text room ≡ refused 25) ↔ Misspelt text
  pub text_26 : (text : List ℕ) (room : ℕ) → (body_of_text text room ≡ refused 26) ↔ Unbound text
  -- The text of a body is spelt right, and its body is that body again.
  pub text_back : (bytes text : List ℕ) (room room' : ℕ) → Bytes bytes → text_of_body bytes room ≡ accepted text → length bytes ≤ room'
      → (reading : Rule) × Reads text reading × (body_of_text text room' ≡ accepted bytes)
  -- A buffer of 432 bytes takes every body (SW_MAX_BODY, 512, is above that), one of 4,096 (SW_MAX_TEXT) every text.
  pub body_room : (text : List ℕ) (room : ℕ) → 432 ≤ room → body_of_text text room ≡ refused 22 → ⊥
  pub text_room : (bytes : List ℕ) (room : ℕ) → 4096 ≤ room → text_of_body bytes room ≡ refused 22 → ⊥
  -- ---- 01's marked cases, and those of 02's point 6, hold of the definitions
  pub marked_cases : Marked
  -- Limits at their boundary: what is within one is not refused with that limit's number, what is above it is.
  pub at_limits : Limits
  -- Which refusal a body or a sheet gets, also where it has two faults; and, for a bound, 23 before 24 before 8.
  pub refusal_order : Orders
  pub bound_order : Bounds
  -- Ranges that are always empty: which are, over what bodies, and in which places of a rule.
  pub empty_ranges : EmptyRanges
  -- Of 01's example: each step's report and live count, and what the evaluator of a recording answers.
  pub example_run : ExampleRun
  pub example_recorded : Recorded
