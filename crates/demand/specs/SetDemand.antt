-- Demand 3 of a set: one claim about the whole list of its steps, and that each of its rules is as if it had been opened by itself.
use Rattle.std.specs.Prelude.{ℕ, suc, ◌+◌, ◌*◌, ◌%◌, ◌≤◌, ◌<◌, ◌≡◌, ◌⊎◌, ◌≢◌, ◌↔◌, List, [], ◌∷◌, ◌++◌, map, length, get_or, take, drop, replicate}
use Rattle.refusal.specs.Answer.{Answer, refused, accepted, or_kept}
use Rattle.rule.specs.declared.Figures.{Figures}
use Rattle.rule.specs.Formula.{Formula}
use Rattle.rule.specs.Formula as formula
use Rattle.rule.specs.Body.{body}
use Rattle.rule.specs.Figures.{figures}
use Rattle.rule.specs.Recording.{recorded}
use Rattle.rule.specs.Steps.{live}
use Rattle.demand.specs.declared.Running.{Running}
use Rattle.demand.specs.Contract.{State, Opening, Taken, Step, state_at, fresh_state, HistoryHolds, Invariant, Carrier, OpenPromise}
use Rattle.demand.specs.Demand.{Call, step, write, stream, Run, false_at_step, Decided_by, Demand_3, Acceptable}
use Rattle.demand.specs.SetContract.{SetOpening, SetTaken, SetStep, SetCounts, SetBatch, no_rule, rule_state, own_cells, sum, all_cells, all_delays, largest, all_numbered, how_many, ticks_of, sheet_bodies, fit_set, SetUnchanged, SetChain, none, more, SetBatchUnchanged, SetBatched, SetOpenPromise, SetStepPromise, SetBatchPromise}

-- ---- the list of calls

-- A step; a batch that was refused (one that was not stands for its single steps); or a writing by others into the opened history, with what it holds
-- after that.
pub data SetCall : Type 0 where
  set_step : SetStep → SetCall
  refused_set_batch : SetBatch → SetCall
  set_write : List ℕ → SetCall

abbrev pub SetRefused : Answer SetTaken → Type 0
SetRefused (refused number) = Unit {0}
SetRefused (accepted taken) = ⊥

-- How many ticks were taken after an answered step, or batch; and what a step adds to the stream.
abbrev pub set_ticks_after : ℕ → Answer SetTaken → ℕ
set_ticks_after t answer = or_kept (λ taken. suc t) answer t

abbrev pub set_ticks_after_batch : ℕ → Answer SetCounts → ℕ
set_ticks_after_batch t answer = or_kept (λ counts. counts.taken + t) answer t

abbrev pub set_added : Answer SetTaken → ℕ → List ℕ → List ℕ
set_added answer flag bytes = or_kept (λ taken. flag ∷ bytes) answer bytes

-- The stream is the flag bytes of the steps that weren't refused, in order.
abbrev pub set_stream : List SetCall → List ℕ
set_stream [] = []
set_stream (set_step made ∷ calls) = set_added made.answer made.flag (set_stream calls)
set_stream (refused_set_batch batch ∷ calls) = set_stream calls
set_stream (set_write history ∷ calls) = set_stream calls

-- The single steps of a chain, and the calls after it; a batch as such calls, by its answer.
abbrev pub with_set_steps : {Stands : Invariant} {delays : ℕ} {sheet flags report : List ℕ} {records : List Running} {history cells : List ℕ} {count : ℕ}
    {records' : List Running} {history' cells' words : List ℕ}
    → SetChain Stands delays sheet flags report records history cells count records' history' cells' words → List SetCall → List SetCall
with_set_steps none calls = calls
with_set_steps (more made chain below room sheet_is records_are flag_is history_is cells_are report_is taken kept) calls =
    with_set_steps chain (set_step made ∷ calls)

abbrev pub with_set_batch : (Stands : Invariant) (batch : SetBatch) (answer : Answer SetCounts) → SetBatched Stands batch answer → List SetCall → List SetCall
with_set_batch Stands batch (refused number) kept calls = refused_set_batch batch ∷ calls
with_set_batch Stands batch (accepted counts) kept calls = with_set_steps kept.2.chain calls

-- `SetRun Stands h L sheet records table history t calls`: the calls were made in this order, each keeping its promise and lent the opened sheet, with records,
-- cell table and opened history (of L bytes) as the calls before left them, of which t took a tick; h is the largest history figure. As `Run` of one rule:
-- records are the state of a set, and nobody else writes these or the cells.
pub data SetRun (Stands : Invariant) (h L : ℕ) (sheet : List ℕ) : List Running → List ℕ → List ℕ → ℕ → List SetCall → Type 0 where
  done : {records : List Running} {table history : List ℕ} {t : ℕ} → SetRun Stands h L sheet records table history t []
  -- A step that brings the opened history, the first `record_count` records and the first `count` words of the cell table, or all of them; any flag byte
  -- and any report.
  stepped : {records : List Running} {table history : List ℕ} {t : ℕ} {calls : List SetCall} {made : SetStep} (record_count count : ℕ)
      → made.sheet ≡ sheet → made.records ≡ take record_count records → made.history ≡ history → made.cells ≡ take count table → SetStepPromise Stands made
      → SetRun Stands h L sheet (made.records' ++ drop record_count records) (made.cells' ++ drop count table) made.history'
      (set_ticks_after t made.answer) calls
      → SetRun Stands h L sheet records table history t (set_step made ∷ calls)
  -- A step that brings another history: one of another length, or, where the step was refused, any.
  with_other_history : {records : List Running} {table history : List ℕ} {t : ℕ} {calls : List SetCall} {made : SetStep} (record_count count : ℕ)
      → made.sheet ≡ sheet → made.records ≡ take record_count records → (length made.history ≢ L) ⊎ SetRefused made.answer → made.cells ≡ take count table
      → SetStepPromise Stands made
      → SetRun Stands h L sheet (made.records' ++ drop record_count records) (made.cells' ++ drop count table) history (set_ticks_after t made.answer) calls
      → SetRun Stands h L sheet records table history t (set_step made ∷ calls)
  -- A batch over the opened history, and a refused one over any history and cells.
  batched : {records : List Running} {table history : List ℕ} {t : ℕ} {calls : List SetCall} (batch : SetBatch) (record_count count : ℕ)
      → batch.sheet ≡ sheet → batch.records ≡ take record_count records → batch.history ≡ history → batch.cells ≡ take count table
      → (promise : SetBatchPromise Stands batch)
      → SetRun Stands h L sheet (batch.records' ++ drop record_count records) (batch.cells' ++ drop count table) batch.history'
      (set_ticks_after_batch t batch.answer) calls
      → SetRun Stands h L sheet records table history t (with_set_batch Stands batch batch.answer promise calls)
  batch_with_other_history : {records : List Running} {table history : List ℕ} {t : ℕ} {calls : List SetCall} {batch : SetBatch} (record_count number : ℕ)
      → batch.sheet ≡ sheet → batch.records ≡ take record_count records → batch.answer ≡ refused number → SetBatchPromise Stands batch
      → SetRun Stands h L sheet records table history t calls
      → SetRun Stands h L sheet records table history t (refused_set_batch batch ∷ calls)
  -- Whatever is written between steps into history bytes other than the last h flags.
  wrote : {records : List Running} {table history : List ℕ} {t : ℕ} {calls : List SetCall} {history' : List ℕ}
      → length history' ≡ length history → HistoryHolds (λ q. get_or history (q % L) 0) L h t history'
      → SetRun Stands h L sheet records table history' t calls
      → SetRun Stands h L sheet records table history t (set_write history' ∷ calls)

-- ---- the claim

abbrev pub no_figures : Figures
no_figures = record { history = 0; delay = 0; cells = 0 }

abbrev pub no_formula : Formula
no_formula = formula.flag 0 0

-- A step is unfit if its history isn't of the opened length, its cells or its records are too few, its report has under twice the sum of all delay + 1
-- words, or the tick numbers have ended.
abbrev pub SetUnfit : List Figures → ℕ → ℕ → SetStep → Type 0
SetUnfit figures L t made =
    (length made.history ≢ L)
    ⊎ ((length made.cells < 4 * all_cells figures)
    ⊎ ((length made.records < length figures) ⊎ ((length made.report < 2 * all_delays figures) ⊎ (4611686018427387904 ≤ t))))

-- A step, before which t ticks were taken, is refused exactly when it is unfit, with the number, 17 to 20, that `fit_set` gives. It then changes nothing.
pub record SetRefusal (figures : List Figures) (L t : ℕ) (made : SetStep) : Type 0 where
  pub exactly : SetRefused made.answer ↔ SetUnfit figures L t made
  pub number : (given : ℕ) → made.answer ≡ refused given
      → fit_set figures (length figures) L t (length made.history) (length made.cells) (length made.report) (length made.records) ≡ refused given
  pub unchanged : SetRefused made.answer → SetUnchanged made

-- A batch that was refused was refused as a step with a report of 8,192 words would have been: by 17, 18 or 20, and never by 19 or 21.
pub record SetBatchRefusal (figures : List Figures) (L t : ℕ) (batch : SetBatch) : Type 0 where
  pub number : ℕ
  pub answered : batch.answer ≡ refused number
  pub number_is : fit_set figures (length figures) L t (length batch.history) (length batch.cells) 8192 (length batch.records) ≡ refused number
  pub one_of : (number ≡ 17) ⊎ ((number ≡ 18) ⊎ (number ≡ 20))
  pub unchanged : SetBatchUnchanged batch

-- What each rule reports at step t, and how many of its ticks are live, over the whole stream.
abbrev pub reports : List Formula → List ℕ → ℕ → List (List ℕ)
reports [] bytes t = []
reports (F ∷ Fs) bytes t = false_at_step F bytes t ∷ reports Fs bytes t

abbrev pub live_counts : List Formula → List ℕ → ℕ → List ℕ
live_counts [] bytes t = []
live_counts (F ∷ Fs) bytes t = length (live F (recorded bytes) t) ∷ live_counts Fs bytes t

-- A step that takes tick t: its pairs are exactly those of the ticks that the meaning over the whole stream makes false at step t, report words after them keep
-- their content, each rule's live count is the number of its ticks up to t still open, and the step's is their sum.
pub record SetReport (Fs : List Formula) (bytes : List ℕ) (t : ℕ) (made : SetStep) (taken : SetTaken) : Type 0 where
  pub words : take (2 * taken.pairs) made.report' ≡ all_numbered 0 (reports Fs bytes t)
  pub count : taken.pairs ≡ how_many (reports Fs bytes t)
  pub rest : drop (2 * taken.pairs) made.report' ≡ drop (2 * taken.pairs) made.report
  pub open_ticks : map (λ (rule : Running). rule.live) taken.running ≡ live_counts Fs bytes t
  pub open_sum : taken.live_count ≡ sum (live_counts Fs bytes t)

pub record SetStepAsStated (Fs : List Formula) (figures : List Figures) (L : ℕ) (bytes : List ℕ) (t : ℕ) (made : SetStep) : Type 0 where
  pub refusal : SetRefusal figures L t made
  pub report : (taken : SetTaken) → made.answer ≡ accepted taken → SetReport Fs bytes t made taken

-- Demand 3 of a list of calls of a set with these rules: so it is at every step of it, over the stream of the WHOLE list, later steps included, and at every
-- refused batch; and every tick p is decided for each rule by step p + its delay.
pub record SetDemand_3 (Fs : List Formula) (figures : List Figures) (L : ℕ) (calls : List SetCall) : Type 0 where
  pub every_step : (before : List SetCall) (made : SetStep) (after : List SetCall) → calls ≡ before ++ (set_step made ∷ after)
      → SetStepAsStated Fs figures L (set_stream calls) (length (set_stream before)) made
  pub every_refused_batch : (before : List SetCall) (batch : SetBatch) (after : List SetCall) → calls ≡ before ++ (refused_set_batch batch ∷ after)
      → SetBatchRefusal figures L (length (set_stream before)) batch
  pub every_tick : (i : ℕ) → i < length figures → (p : ℕ) → p + (get_or figures i no_figures).delay < length (set_stream calls)
      → Decided_by (get_or Fs i no_formula) (set_stream calls) (p + (get_or figures i no_figures).delay) p

-- The rules of the opening's sheet are Fs, accepted with the figures that they need; these have 4,096 cells in all at most, and what was lent is
-- enough for all of them.
pub record SetAcceptable (opening : SetOpening) (Fs : List Formula) (needs : List Figures) : Type 0 where
  pub bodies : List (List ℕ)
  pub bodies_are : sheet_bodies opening.sheet ≡ accepted bodies
  pub as_many_formulas : length Fs ≡ length bodies
  pub as_many_figures : length needs ≡ length bodies
  pub formula_is : (i : ℕ) → i < length bodies → body (get_or bodies i []) ≡ accepted (get_or Fs i no_formula)
  pub figures_are : (i : ℕ) → i < length bodies → figures (get_or Fs i no_formula) ≡ accepted (get_or needs i no_figures)
  pub cells_low : all_cells needs ≤ 4096
  pub history_low : largest needs ≤ length opening.history
  pub history_high : length opening.history ≤ 4096
  pub cells_there : 4 * all_cells needs ≤ length opening.table
  pub records_there : length needs ≤ length opening.records

-- ---- what rule i sees of it, opened by itself

-- The state of a rule by itself is carried as it is.
abbrev pub as_state : Carrier
as_state =
    record {
      Carried = State;
      holds = λ state. state;
      fresh = λ state. fresh_state;
      moved = λ state flags next live. state_at state.body_bytes state.opened next live;
    }

-- Opening and step of rule i alone: its own part of the table, the same history and flag bytes; of the report its own ticks, in a report of delay + 1 words.
abbrev pub own_opening : ℕ → SetOpening → List Running → Opening
own_opening i opening given =
    record {
      sheet = opening.sheet;
      rule = i;
      history = opening.history;
      table = own_cells (get_or given i no_rule) opening.table;
      answer = accepted (rule_state opening.sheet (get_or given i no_rule));
      history' = opening.history';
      table' = own_cells (get_or given i no_rule) opening.table';
    }

abbrev pub own_taken : ℕ → SetStep → SetTaken → Taken
own_taken i made taken =
    record {
      reported = length (ticks_of i taken.pairs made.report');
      live_count = (get_or taken.running i no_rule).live;
      state = rule_state made.sheet (get_or taken.running i no_rule);
    }

abbrev pub own_report : ℕ → SetStep → List ℕ
own_report i made = replicate ((get_or made.records i no_rule).delay + 1) 0

abbrev pub own_step : ℕ → SetStep → SetTaken → Step
own_step i made taken =
    record {
      flag = made.flag;
      history = made.history;
      cells = own_cells (get_or made.records i no_rule) made.cells;
      report = own_report i made;
      answer = accepted (own_taken i made taken);
      history' = made.history';
      cells' = own_cells (get_or made.records i no_rule) made.cells';
      report' =
          ticks_of i taken.pairs made.report'
          ++ drop (length (ticks_of i taken.pairs made.report')) (own_report i made);
    }

-- A step or batch that the set refused is none of the rule's.
abbrev pub own_call : ℕ → SetStep → Answer SetTaken → List Call → List Call
own_call i made (refused number) calls = calls
own_call i made (accepted taken) calls = step (own_step i made taken) ∷ calls

abbrev pub own_calls : ℕ → List SetCall → List Call
own_calls i [] = []
own_calls i (set_step made ∷ calls) = own_call i made made.answer (own_calls i calls)
own_calls i (refused_set_batch batch ∷ calls) = own_calls i calls
own_calls i (set_write history ∷ calls) = write history ∷ own_calls i calls

-- Rule i of a set is as if it had been opened by itself: its own opening keeps the promise of an opening of one rule, the calls as it sees them are a list
-- of calls of one rule, in which nobody else writes its cells, with the same stream, and so demand 3 of one rule holds of them.
pub record Alone (Stands : Invariant) (opening : SetOpening) (given : List Running) (F : Formula) (figures : Figures) (calls : List SetCall) (i : ℕ)
    : Type 0 where
  pub acceptable : Acceptable (own_opening i opening given) F figures
  pub opens : (carried : State) → OpenPromise Stands as_state carried (own_opening i opening given) (rule_state opening.sheet (get_or given i no_rule))
  pub runs : Run Stands as_state figures.history (length opening.history) (rule_state opening.sheet (get_or given i no_rule))
      (own_cells (get_or given i no_rule) opening.table') opening.history' 0 (own_calls i calls)
  pub same_stream : stream (own_calls i calls) ≡ set_stream calls
  pub demand_3 : Demand_3 F figures (length opening.history) (own_calls i calls)

-- Where each rule's cells are: the parts of the table lie side by side, none over another, and each record keeps its own at every step.
pub record OwnParts (given : List Running) (figures : List Figures) (calls : List SetCall) : Type 0 where
  pub sizes : (i : ℕ) → i < length given → (get_or given i no_rule).cells ≡ (get_or figures i no_figures).cells
  pub inside : (i : ℕ) → i < length given → (get_or given i no_rule).first + (get_or given i no_rule).cells ≤ all_cells figures
  pub apart : (i j : ℕ) → i < j → j < length given → (get_or given i no_rule).first + (get_or given i no_rule).cells ≤ (get_or given j no_rule).first
  pub kept : (before : List SetCall) (made : SetStep) (after : List SetCall) → calls ≡ before ++ (set_step made ∷ after)
      → (i : ℕ) → i < length given → i < length made.records
      → ((get_or made.records i no_rule).first ≡ (get_or given i no_rule).first) × ((get_or made.records i no_rule).cells ≡ (get_or given i no_rule).cells)

-- ---- demand 3 of an opening and all that follows it

-- Exactly the acceptable openings are accepted, each for its rules; every list of calls from an accepted one is as demand 3 says, and for each rule as if it had
-- been opened by itself; and its refusals are so whichever history bytes were overwritten in between (h = 0 in the list): no other number comes, 21 never.
pub record SetDemanded_of (Stands : Invariant) (opening : SetOpening) : Type 0 where
  pub accepts : (Fs : List Formula) (figures : List Figures) → SetAcceptable opening Fs figures → (given : List Running) × (opening.answer ≡ accepted given)
  pub rules_are : (given : List Running) → opening.answer ≡ accepted given → (Fs : List Formula) × (figures : List Figures) × SetAcceptable opening Fs figures
  pub demand_3 : (given : List Running) → opening.answer ≡ accepted given → (Fs : List Formula) (figures : List Figures) → SetAcceptable opening Fs figures
      → (calls : List SetCall)
      → SetRun Stands (largest figures) (length opening.history) opening.sheet opening.records' opening.table' opening.history' 0 calls
      → SetDemand_3 Fs figures (length opening.history) calls
  pub alone : (given : List Running) → opening.answer ≡ accepted given → (Fs : List Formula) (figures : List Figures) → SetAcceptable opening Fs figures
      → (calls : List SetCall)
      → SetRun Stands (largest figures) (length opening.history) opening.sheet opening.records' opening.table' opening.history' 0 calls
      → (i : ℕ) → i < length figures → Alone Stands opening given (get_or Fs i no_formula) (get_or figures i no_figures) calls i
  pub own_parts : (given : List Running) → opening.answer ≡ accepted given → (Fs : List Formula) (figures : List Figures) → SetAcceptable opening Fs figures
      → (h : ℕ) (calls : List SetCall)
      → SetRun Stands h (length opening.history) opening.sheet opening.records' opening.table' opening.history' 0 calls
      → OwnParts given figures calls
  pub refusals : (given : List Running) → opening.answer ≡ accepted given → (Fs : List Formula) (figures : List Figures) → SetAcceptable opening Fs figures
      → (before : List SetCall) (made : SetStep) (after : List SetCall)
      → SetRun Stands 0 (length opening.history) opening.sheet opening.records' opening.table' opening.history' 0
      (before ++ (set_step made ∷ after))
      → SetRefusal figures (length opening.history) (length (set_stream before)) made
  pub batch_refusals : (given : List Running) → opening.answer ≡ accepted given → (Fs : List Formula) (figures : List Figures) → SetAcceptable opening Fs figures
      → (before : List SetCall) (batch : SetBatch) (after : List SetCall)
      → SetRun Stands 0 (length opening.history) opening.sheet opening.records' opening.table' opening.history' 0
      (before ++ (refused_set_batch batch ∷ after))
      → SetBatchRefusal figures (length opening.history) (length (set_stream before)) batch

abbrev pub SetDemanded : Invariant → Type 0
SetDemanded Stands = (opening : SetOpening) → SetOpenPromise Stands opening → SetDemanded_of Stands opening

-- ---- "each rule's part equals what it reports when opened by itself, for every list of bytes"

-- All that was called of one engine: an accepted opening of a set, or of one rule, and a list of calls from it.
pub record SetWatched (Stands : Invariant) : Type 0 where
  pub opening : SetOpening
  pub promise : SetOpenPromise Stands opening
  pub given : List Running
  pub answered : opening.answer ≡ accepted given
  pub Fs : List Formula
  pub needs : List Figures
  pub acceptable : SetAcceptable opening Fs needs
  pub calls : List SetCall
  pub run : SetRun Stands (largest needs) (length opening.history) opening.sheet opening.records' opening.table' opening.history' 0 calls

pub record Watched (Stands : Invariant) (carrier : Carrier) : Type 0 where
  pub opening : Opening
  pub carried : carrier.Carried
  pub carried' : carrier.Carried
  pub promise : OpenPromise Stands carrier carried opening carried'
  pub state : State
  pub answered : opening.answer ≡ accepted state
  pub F : Formula
  pub needs : Figures
  pub acceptable : Acceptable opening F needs
  pub calls : List Call
  pub run : Run Stands carrier needs.history (length opening.history) carried' opening.table' opening.history' 0 calls

-- Two engines, each with its own histories, cells and reports, one of them opened with a rule of the other's sheet by itself, and the same stream: at the step that
-- takes the same tick they report the same ticks of that rule, and have as many live.
abbrev pub AsAlone : Invariant → Invariant → Carrier → Type 0
AsAlone Stands Stands₁ carrier =
    (set : SetWatched Stands) (one : Watched Stands₁ carrier) → one.opening.sheet ≡ set.opening.sheet → stream one.calls ≡ set_stream set.calls
    → (before : List SetCall) (made : SetStep) (after : List SetCall) → set.calls ≡ before ++ (set_step made ∷ after)
    → (taken : SetTaken) → made.answer ≡ accepted taken
    → (before₁ : List Call) (made₁ : Step) (after₁ : List Call) → one.calls ≡ before₁ ++ (step made₁ ∷ after₁)
    → (taken₁ : Taken) → made₁.answer ≡ accepted taken₁
    → length (stream before₁) ≡ length (set_stream before)
    → (ticks_of one.opening.rule taken.pairs made.report' ≡ take taken₁.reported made₁.report')
    × ((get_or taken.running one.opening.rule no_rule).live ≡ taken₁.live_count)
