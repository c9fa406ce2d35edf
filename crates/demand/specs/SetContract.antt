-- What opening, step and batch of a set promise: document 02, point 4, "A whole sheet at once".
use Rattle.std.specs.Prelude.{ℕ, zero, suc, ◌+◌, ◌*◌, ◌%◌, ◌≤◌, ◌<◌, max, ◌≡◌, Bool, false, not, cond, ◌&&◌, ◌||◌, ◌⊎◌, List, [], ◌∷◌, ◌++◌, map, leb, eqb, length, get_or, take, drop, set, replicate}
use Rattle.refusal.specs.Answer.{Answer, refused, accepted, and_then}
use Rattle.sheet.specs.Sheet.{rule_count, body_offset, extent, has_contents, laid_out}
use Rattle.rule.specs.declared.Figures.{Figures}
use Rattle.rule.specs.Formula.{Formula}
use Rattle.rule.specs.Body.{body}
use Rattle.rule.specs.Figures.{body_figures}
use Rattle.rule.specs.Steps.{report, live}
use Rattle.demand.specs.declared.Running.{Running}
use Rattle.demand.specs.Contract.{State, state_at, must, HistoryHolds, Invariant}

-- ---- the calls: what each brought, what it answered, what it left in the lent memory

-- "A set opens all the rules of a sheet over one history and one cell table, keeps its running rules as a list of records." What it left is marked
-- with a prime; an accepted opening gives the running rules.
pub record SetOpening : Type 0 where
  pub sheet : List ℕ
  pub records : List Running
  pub history : List ℕ
  pub table : List ℕ
  pub answer : Answer (List Running)
  pub records' : List Running
  pub history' : List ℕ
  pub table' : List ℕ

-- "A step answers how many pairs", how many ticks are live in all, and the running rules as they are then.
pub record SetTaken : Type 0 where
  pub pairs : ℕ
  pub live_count : ℕ
  pub running : List Running

-- The sheet is the caller's own memory, as history and cells are, and is lent to each step again.
pub record SetStep : Type 0 where
  pub sheet : List ℕ
  pub records : List Running
  pub flag : ℕ
  pub history : List ℕ
  pub cells : List ℕ
  pub report : List ℕ
  pub answer : Answer SetTaken
  pub records' : List Running
  pub history' : List ℕ
  pub cells' : List ℕ
  pub report' : List ℕ

-- A batch takes many flag bytes; its report gets triples of a rule number, a tick and the step that decided it.
pub record SetCounts : Type 0 where
  pub taken : ℕ
  pub triples : ℕ
  pub live_count : ℕ
  pub running : List Running

pub record SetBatch : Type 0 where
  pub sheet : List ℕ
  pub records : List Running
  pub flags : List ℕ
  pub history : List ℕ
  pub cells : List ℕ
  pub report : List ℕ
  pub answer : Answer SetCounts
  pub records' : List Running
  pub history' : List ℕ
  pub cells' : List ℕ
  pub report' : List ℕ

-- An opening, a step and a batch that were answered so. An opening only measures the cell table: the first step sets up what it needs there.
abbrev pub set_opening_of : Answer (List Running) → List ℕ → List Running → List ℕ → List ℕ → List Running → List ℕ → SetOpening
set_opening_of answer sheet records history table records' history' =
    record {
      sheet = sheet;
      records = records;
      history = history;
      table = table;
      answer = answer;
      records' = records';
      history' = history';
      table' = table;
    }

abbrev pub set_step_of : Answer SetTaken → List ℕ → List Running → ℕ → List ℕ → List ℕ → List ℕ → List Running → List ℕ → List ℕ → List ℕ → SetStep
set_step_of answer sheet records flag history cells report records' history' cells' report' =
    record {
      sheet = sheet;
      records = records;
      flag = flag;
      history = history;
      cells = cells;
      report = report;
      answer = answer;
      records' = records';
      history' = history';
      cells' = cells';
      report' = report';
    }

abbrev pub set_batch_of : Answer SetCounts → List ℕ → List Running → List ℕ → List ℕ → List ℕ → List ℕ → List Running → List ℕ → List ℕ → List ℕ → SetBatch
set_batch_of answer sheet records flags history cells report records' history' cells' report' =
    record {
      sheet = sheet;
      records = records;
      flags = flags;
      history = history;
      cells = cells;
      report = report;
      answer = answer;
      records' = records';
      history' = history';
      cells' = cells';
      report' = report';
    }

-- ---- a running rule

-- The record that stands for none.
abbrev pub no_rule : Running
no_rule = record { start = 0; size = 0; first = 0; cells = 0; delay = 0; opened = 0; live = 0; next = 0 }

-- Its body in the sheet, the state that it has by itself, and its own cells in the table.
abbrev pub body_at : List ℕ → Running → List ℕ
body_at sheet rule = take rule.size (drop rule.start sheet)

abbrev pub rule_state : List ℕ → Running → State
rule_state sheet rule = state_at (body_at sheet rule) rule.opened rule.next rule.live

abbrev pub own_cells : Running → List ℕ → List ℕ
own_cells rule table = take (4 * rule.cells) (drop (4 * rule.first) table)

-- It has taken its tick, and so many ticks are live.
abbrev pub next_rule : Running → ℕ → Running
next_rule rule live =
    record {
      start = rule.start;
      size = rule.size;
      first = rule.first;
      cells = rule.cells;
      delay = rule.delay;
      opened = rule.opened;
      live = live;
      next = suc rule.next;
    }

-- The running rules among lent records: the first n of a sheet of n rules. Further ones keep their content.
abbrev pub running_rules : List ℕ → List Running → List Running
running_rules sheet records = take (rule_count sheet) records

-- The opened length and the next tick stand in every record; here they are taken from the first.
abbrev pub opened_length : List Running → ℕ
opened_length records = (get_or records 0 no_rule).opened

abbrev pub next_tick : List Running → ℕ
next_tick records = (get_or records 0 no_rule).next

-- ---- sums

abbrev pub sum : List ℕ → ℕ
sum [] = 0
sum (number ∷ numbers) = number + sum numbers

abbrev pub all_live : List Running → ℕ
all_live rules = sum (map (λ (rule : Running). rule.live) rules)

-- Of all rules: their cells, the most pairs of one step (all delay + 1), and the largest history figure.
abbrev pub all_cells : List Figures → ℕ
all_cells [] = 0
all_cells (figures ∷ rest) = figures.cells + all_cells rest

abbrev pub all_delays : List Figures → ℕ
all_delays [] = 0
all_delays (figures ∷ rest) = (figures.delay + 1) + all_delays rest

abbrev pub largest : List Figures → ℕ
largest [] = 0
largest (figures ∷ rest) = max figures.history (largest rest)

-- ---- pairs: "rule number and then tick, ascending by rule and then by tick"

-- The pairs of one rule with these ticks; and those of rules i, i + 1, .. with a list of ticks for each.
abbrev pub numbered : ℕ → List ℕ → List ℕ
numbered i [] = []
numbered i (tick ∷ ticks) = i ∷ tick ∷ numbered i ticks

abbrev pub all_numbered : ℕ → List (List ℕ) → List ℕ
all_numbered i [] = []
all_numbered i (ticks ∷ rest) = numbered i ticks ++ all_numbered (suc i) rest

abbrev pub how_many : List (List ℕ) → ℕ
how_many [] = 0
how_many (ticks ∷ rest) = length ticks + how_many rest

-- The ticks of rule i among the first pairs of a report.
unfoldable pub ticks_of : ℕ → ℕ → List ℕ → List ℕ
ticks_of i zero words = []
ticks_of i (suc pairs) words =
    cond (eqb (get_or words 0 0) i) (get_or words 1 0 ∷ ticks_of i pairs (drop 2 words)) (ticks_of i pairs (drop 2 words))

-- Pairs of a report, each followed by the step that decided them.
abbrev pub timed : ℕ → List ℕ → List ℕ
timed step [] = []
timed step (rule ∷ []) = []
timed step (rule ∷ tick ∷ words) = rule ∷ tick ∷ step ∷ timed step words

-- ---- the refusals of an opening, exactly

-- The bodies of so many entries from this one on; and of a sheet, with its refusals 1 and 2.
unfoldable pub bodies_from : ℕ → List ℕ → ℕ → List (List ℕ)
bodies_from zero sheet index = []
bodies_from (suc count) sheet index = take (extent sheet index) (drop (body_offset sheet index) sheet) ∷ bodies_from count sheet (suc index)

unfoldable pub sheet_bodies : List ℕ → Answer (List (List ℕ))
sheet_bodies sheet =
    must (has_contents sheet) 1
    (must (laid_out (rule_count sheet) sheet 0 (1 + 4 * rule_count sheet)) 2 (accepted (bodies_from (rule_count sheet) sheet 0)))

-- "All the rules' own 4 to 15 in rule order", 23 and 24 among them.
unfoldable pub all_figures : List (List ℕ) → Answer (List Figures)
all_figures [] = accepted []
all_figures (body ∷ bodies) = and_then (body_figures body) (λ figures. and_then (all_figures bodies) (λ rest. accepted (figures ∷ rest)))

-- The figures of all rules of a sheet, with all these refusals and then 27: "Opening fails at the first rule that would push the sum of cells above 4,096".
unfoldable pub set_figures : List ℕ → Answer (List Figures)
set_figures sheet =
    and_then (sheet_bodies sheet) (λ bodies. and_then (all_figures bodies) (λ figures. must (leb (all_cells figures) 4096) 27 (accepted figures)))

-- Then, with a history, a table and records of these lengths, "17 reads the largest history figure, 18 the sum of the cells (or fewer records than
-- rules ..)".
unfoldable pub set_room : ℕ → ℕ → ℕ → List Figures → Answer (List Figures)
set_room history table records figures =
    must (leb (largest figures) history && leb history 4096) 17
    (must (leb (4 * all_cells figures) table && leb (length figures) records) 18 (accepted figures))

-- An opening is judged by its sheet and the lengths of what it is lent.
abbrev pub admit_set_lengths : List ℕ → ℕ → ℕ → ℕ → Answer (List Figures)
admit_set_lengths sheet history table records = and_then (set_figures sheet) (set_room history table records)

abbrev pub admit_set : SetOpening → Answer (List Figures)
admit_set opening = admit_set_lengths opening.sheet (length opening.history) (length opening.table) (length opening.records)

-- The record of the rule of entry `index` with these figures, its first cell at `first`, over a history of L bytes: next tick 0 and 0 live.
abbrev pub opened_rule : List ℕ → ℕ → ℕ → ℕ → Figures → Running
opened_rule sheet L index first figures =
    record {
      start = body_offset sheet index;
      size = extent sheet index;
      first = first;
      cells = figures.cells;
      delay = figures.delay;
      opened = L;
      live = 0;
      next = 0;
    }

-- The records of a set's rules with these figures, from entry `index` and cell `first` on. "No rule's cells are touched by another's": each has its own part of
-- the table.
unfoldable pub opened_rules : List ℕ → ℕ → ℕ → ℕ → List Figures → List Running
opened_rules sheet L index first [] = []
opened_rules sheet L index first (figures ∷ rest) =
    opened_rule sheet L index first figures ∷ opened_rules sheet L (suc index) (first + figures.cells) rest

-- ---- the refusals of a step, exactly

-- The figures of a running rule, which has them since it was opened; none for a body that does not open.
abbrev pub figures_or_none : Answer Figures → Figures
figures_or_none (refused number) = record { history = 0; delay = 0; cells = 0 }
figures_or_none (accepted figures) = figures

abbrev pub needs : List ℕ → Running → Figures
needs sheet rule = figures_or_none (body_figures (body_at sheet rule))

-- A record that an opening of this sheet with L bytes of history, and steps before tick t, can have left, its first cell at `first`: it lies in the sheet,
-- its body opens with its figures, and opened length and next tick are those of all.
abbrev pub same_figures : Running → Answer Figures → Bool
same_figures rule (refused number) = false
same_figures rule (accepted figures) =
    eqb figures.cells rule.cells && (eqb figures.delay rule.delay && leb figures.history rule.opened)

unfoldable pub runs : List ℕ → ℕ → ℕ → ℕ → Running → Bool
runs sheet L t first rule =
    leb (rule.start + rule.size) (length sheet)
    && (eqb rule.first first && (eqb rule.opened L && (eqb rule.next t && same_figures rule (body_figures (body_at sheet rule)))))

-- And all of them, with cells that are side by side and at most 4,096 in all.
unfoldable pub all_run : List ℕ → ℕ → ℕ → ℕ → List Running → Bool
all_run sheet L t first [] = leb first 4096
all_run sheet L t first (rule ∷ rules) = runs sheet L t first rule && all_run sheet L t (first + rule.cells) rules

-- 17 to 20 of a set of n rules with these figures, with history, cells, report and records of these lengths: "19 twice the sum of all delay + 1". Where no
-- record is lent, the opened length is not known, and 18 comes.
unfoldable pub fit_set : List Figures → ℕ → ℕ → ℕ → ℕ → ℕ → ℕ → ℕ → Answer (List Figures)
fit_set figures n L t history cells report records =
    must (eqb records 0 || eqb history L) 17
    (must (leb (4 * all_cells figures) cells && leb n records) 18
    (must (leb (2 * all_delays figures) report) 19
    (must (not (leb 4611686018427387904 t)) 20 (accepted figures))))

-- Before them 21: "Records are state to 21". A sheet that is not the opened one is noticed where it has not 1 to 32 rules, or the records' bodies in it do not open
-- with the records' figures.
unfoldable pub admit_records : List ℕ → List Running → ℕ → ℕ → ℕ → Answer (List Figures)
admit_records sheet records history cells report =
    must (leb 1 (rule_count sheet) && leb (rule_count sheet) 32) 21
    (must (leb (opened_length records) 4096) 21
    (must (all_run sheet (opened_length records) (next_tick records) 0 (running_rules sheet records)) 21
    (fit_set (map (needs sheet) (running_rules sheet records)) (rule_count sheet) (opened_length records) (next_tick records) history cells report
    (length records))))

abbrev pub admit_set_step : SetStep → Answer (List Figures)
admit_set_step made = admit_records made.sheet made.records (length made.history) (length made.cells) (length made.report)

-- A batch is refused as its first step would be with a report of 8,192 words, which are enough for every set: by 21, 17, 18 or 20, and never by 19.
abbrev pub admit_set_batch : SetBatch → Answer (List Figures)
admit_set_batch batch = admit_records batch.sheet batch.records (length batch.history) (length batch.cells) 8192

-- ---- the promises

-- One rule takes one tick, over a history that is only read: `ticks` are what it reports, `cells` and `cells'` its own cells, no word more.
pub record TickMeans (Stands : Invariant) (before : State) (F : Formula) (flags : ℕ → ℕ) (cells' ticks : List ℕ) (after : State) : Type 0 where
  pub words : ticks ≡ report F flags before.next
  pub open_ticks : after.live_count ≡ length (live F flags before.next)
  pub stands : Stands after cells' flags

pub record Ticked (Stands : Invariant) (before : State) (figures : Figures) (flag : ℕ) (history cells cells' ticks : List ℕ) (after : State) : Type 0 where
  pub few : length ticks ≤ figures.delay + 1
  pub few_live : after.live_count ≤ figures.delay + 1
  pub means : (F : Formula) → body before.body_bytes ≡ accepted F → (flags : ℕ → ℕ) → flags before.next ≡ flag
      → HistoryHolds flags before.opened figures.history before.next history → Stands before cells flags
      → TickMeans Stands before F flags cells' ticks after

-- An accepted opening of a set with these figures: it zeroes the history, may write the needed cells but no table word after them, and gives the
-- running rules, in the first of the lent records; further ones keep their content.
pub record SetOpens (Stands : Invariant) (opening : SetOpening) (given : List Running) (figures : List Figures) : Type 0 where
  pub rules : given ≡ opened_rules opening.sheet (length opening.history) 0 0 figures
  pub records_are : opening.records' ≡ given ++ drop (length given) opening.records
  pub zeroed : opening.history' ≡ replicate (length opening.history) 0
  pub table_length : length opening.table' ≡ length opening.table
  pub table_rest : drop (4 * all_cells figures) opening.table' ≡ drop (4 * all_cells figures) opening.table
  pub stands : (i : ℕ) → i < length given → (flags : ℕ → ℕ)
      → Stands (rule_state opening.sheet (get_or given i no_rule)) (own_cells (get_or given i no_rule) opening.table') flags

abbrev pub SetOpened : Invariant → (opening : SetOpening) → Answer (List Running) → Type 0
SetOpened Stands opening (refused number) =
    (admit_set opening ≡ refused number)
    × ((opening.records' ≡ opening.records) × ((opening.history' ≡ opening.history) × (opening.table' ≡ opening.table)))
SetOpened Stands opening (accepted given) = (figures : List Figures) × (admit_set opening ≡ accepted figures) × SetOpens Stands opening given figures

-- A step that takes a tick: the flag byte is stored once; each rule takes the tick in its own cells; the report is the pairs of all; each record has the
-- next tick and its rule's live count, and "live counts add up".
pub record SetTakes (Stands : Invariant) (made : SetStep) (figures : List Figures) (taken : SetTaken) : Type 0 where
  pub as_many : length taken.running ≡ rule_count made.sheet
  pub records_are : made.records' ≡ taken.running ++ drop (rule_count made.sheet) made.records
  pub live_sum : taken.live_count ≡ all_live taken.running
  pub history_is : made.history' ≡ set made.history (next_tick made.records % opened_length made.records) made.flag
  pub cells_length : length made.cells' ≡ length made.cells
  pub cells_rest : drop (4 * all_cells figures) made.cells' ≡ drop (4 * all_cells figures) made.cells
  -- the ticks of each rule
  pub parts : List (List ℕ)
  pub parts_length : length parts ≡ rule_count made.sheet
  pub pairs_are : taken.pairs ≡ how_many parts
  pub report_is : made.report' ≡ all_numbered 0 parts ++ drop (2 * taken.pairs) made.report
  pub moved : (i : ℕ) → i < rule_count made.sheet
      → get_or taken.running i no_rule ≡ next_rule (get_or made.records i no_rule) (get_or taken.running i no_rule).live
  pub each : (i : ℕ) → i < rule_count made.sheet
      → Ticked Stands (rule_state made.sheet (get_or made.records i no_rule)) (needs made.sheet (get_or made.records i no_rule)) made.flag made.history
      (own_cells (get_or made.records i no_rule) made.cells) (own_cells (get_or made.records i no_rule) made.cells') (get_or parts i [])
      (rule_state made.sheet (get_or taken.running i no_rule))

abbrev pub SetUnchanged : SetStep → Type 0
SetUnchanged made =
    (made.records' ≡ made.records) × ((made.history' ≡ made.history) × ((made.cells' ≡ made.cells) × (made.report' ≡ made.report)))

abbrev pub SetStepped : Invariant → (made : SetStep) → Answer SetTaken → Type 0
SetStepped Stands made (refused number) = (admit_set_step made ≡ refused number) × SetUnchanged made
SetStepped Stands made (accepted taken) = (figures : List Figures) × (admit_set_step made ≡ accepted figures) × SetTakes Stands made figures taken

-- ---- a batch: so many single steps, one after another

-- As `Chain` of one rule: `count` single steps took the first `count` flags, each with records, history and cells as the step before left them, and lent
-- 2 * `delays` words of the report, where 3 * `delays` were left, `delays` being the sum of all delay + 1; `words` are the triples of all their reports.
pub data SetChain (Stands : Invariant) (delays : ℕ) (sheet flags report : List ℕ) (records : List Running) (history cells : List ℕ)
    : ℕ → List Running → List ℕ → List ℕ → List ℕ → Type 0 where
  none : SetChain Stands delays sheet flags report records history cells 0 records history cells []
  more : {count : ℕ} {records₁ : List Running} {history₁ cells₁ words : List ℕ} {taken : SetTaken} (made : SetStep)
      → SetChain Stands delays sheet flags report records history cells count records₁ history₁ cells₁ words
      → count < length flags → length words + 3 * delays ≤ length report
      → made.sheet ≡ sheet → made.records ≡ records₁ → made.flag ≡ get_or flags count 0 → made.history ≡ history₁ → made.cells ≡ cells₁
      → made.report ≡ take (2 * delays) (drop (length words) report)
      → made.answer ≡ accepted taken → SetStepped Stands made made.answer
      → SetChain Stands delays sheet flags report records history cells (suc count) made.records' made.history' made.cells'
      (words ++ timed (next_tick records₁) (take (2 * taken.pairs) made.report'))

-- A batch of a set with these figures that was not refused. It ends where all flags are taken; or fewer than three times the sum of all delay + 1 report words
-- are left; or the tick numbers have ended.
pub record SetSteps (Stands : Invariant) (batch : SetBatch) (figures : List Figures) (counts : SetCounts) : Type 0 where
  pub words : List ℕ
  pub chain : SetChain Stands (all_delays figures) batch.sheet batch.flags batch.report batch.records batch.history batch.cells
      counts.taken batch.records' batch.history' batch.cells' words
  pub count : length words ≡ 3 * counts.triples
  pub report_is : batch.report' ≡ words ++ drop (length words) batch.report
  pub running_is : counts.running ≡ running_rules batch.sheet batch.records'
  pub live_sum : counts.live_count ≡ all_live counts.running
  pub ended : (length batch.flags ≤ counts.taken)
      ⊎ ((length batch.report < length words + 3 * all_delays figures) ⊎ (next_tick batch.records' ≡ 4611686018427387904))

abbrev pub SetBatchUnchanged : SetBatch → Type 0
SetBatchUnchanged batch =
    (batch.records' ≡ batch.records) × ((batch.history' ≡ batch.history) × ((batch.cells' ≡ batch.cells) × (batch.report' ≡ batch.report)))

abbrev pub SetBatched : Invariant → (batch : SetBatch) → Answer SetCounts → Type 0
SetBatched Stands batch (refused number) = (admit_set_batch batch ≡ refused number) × SetBatchUnchanged batch
SetBatched Stands batch (accepted counts) = (figures : List Figures) × (admit_set_batch batch ≡ accepted figures) × SetSteps Stands batch figures counts

-- ---- the promises of the functions

abbrev pub SetOpenPromise : Invariant → SetOpening → Type 0
SetOpenPromise Stands opening = SetOpened Stands opening opening.answer

abbrev pub SetStepPromise : Invariant → SetStep → Type 0
SetStepPromise Stands made = SetStepped Stands made made.answer

abbrev pub SetBatchPromise : Invariant → SetBatch → Type 0
SetBatchPromise Stands batch = SetBatched Stands batch batch.answer
