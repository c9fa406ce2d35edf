-- What the functions that move one formula require and give.
use Rattle.std.specs.Prelude.{ℕ, suc, ◌+◌, ◌*◌, ◌-◌, ◌≤◌, ◌<◌, max, ◌≡◌, ◌⊎◌, ◌≢◌, List, get_or, take, drop, length, set}
use Rattle.rule.specs.declared.Verdict.{Verdict}
use Rattle.rule.specs.declared.Verdict.TheVariants.{False}
use Rattle.rule.specs.declared.Outcome.{Outcome}
use Rattle.rule.specs.declared.Outcome.TheVariants.{Decided, Open}
use Rattle.rule.specs.declared.Pair.{Pair}
use Rattle.rule.specs.Meaning.{up, verdict, walk}
use Rattle.rule.specs.Positions.{Fits}
use Rattle.rule.specs.Started.{From, Before, Reach}
use Rattle.demand.specs.Contract.{HistoryHolds}
use Rattle.cell_runs.specs.Tree.{Tree, formula_of, words, Formed}
use Rattle.cells.specs.Cells.{held, CellHolds}
use Rattle.cell_runs.specs.Slots.{window, slot}
pub use Rattle.cell_runs.specs.declared.Variables.{Variables}
use Rattle.cell_runs.specs.Run.{out, with_position, own_tick, RunHolds, SlotHolds, RunReady, SlotReady}

-- ---- the variables and their bytes

-- The positions of the variables that are known.
abbrev pub places : Variables → List ℕ
places variables = take variables.known variables.pos

-- The environment with one more position and its byte.
abbrev pub with_byte : Variables → ℕ → ℕ → Variables
with_byte variables q byte = record { known = variables.known + 1; pos = set variables.pos variables.known q; bytes = set variables.bytes variables.known byte }

-- The flag formula, by the byte that was saved for its variable.
abbrev pub flagged : List ℕ → ℕ → ℕ → ℕ → Outcome
flagged bytes variable k s = Decided (verdict (up k (get_or bytes variable 0))) s

-- The bytes at hand are those of the stream: the history holds the last h ticks before t, `flag` is the byte of t.
pub record FlagsAtHand (flags : ℕ → ℕ) (h : ℕ) (hist : List ℕ) (flag t : ℕ) : Type 0 where
  pub history : HistoryHolds flags (length hist) h t hist
  pub current : flag ≡ flags t

-- And each variable's byte is saved.
pub record AtHand (flags : ℕ → ℕ) (h : ℕ) (history : List ℕ) (flag : ℕ) (variables : Variables) (t : ℕ) : Type 0 where
  pub stream : FlagsAtHand flags h history flag t
  pub saved : (variable : ℕ) → variable < variables.known → get_or variables.bytes variable 0 ≡ flags (get_or variables.pos variable 0)

-- ---- what the functions require: nothing of what the cells hold. Tick t is one that steps take (`low`), and so near to the rule's own tick that a cell's word can
-- count the steps between them (`near`)

pub record Fit (F : Tree) (variables : Variables) (t : ℕ) (len : ℕ) : Type 0 where
  pub pairs : List Pair
  pub fits : Fits (own_tick (places variables)) pairs (places variables)
  pub size : length pairs ≡ variables.known
  pub formed : Formed pairs F
  pub room : words pairs F ≤ len
  pub low : t < 4611686018427387904
  pub near : t < own_tick (places variables) + 4294967296
  pub past : (variable : ℕ) → get_or variables.pos variable 0 ≤ t
  pub unbound : (variable : ℕ) → variables.known ≤ variable → get_or variables.pos variable 0 ≡ 0
  pub five_places : length variables.pos ≡ 5
  pub five_bytes : length variables.bytes ≡ 5
  pub few : variables.known ≤ 5
  pub some : 0 < variables.known

-- One position's slot.
pub record SlotFit (F : Tree) (variables : Variables) (t q : ℕ) (len : ℕ) : Type 0 where
  pub pairs : List Pair
  pub fits : Fits (own_tick (with_position (places variables) q)) pairs (with_position (places variables) q)
  pub size : length pairs ≡ suc variables.known
  pub formed : Formed pairs F
  pub room : 4 + words pairs F ≤ len
  pub low : t < 4611686018427387904
  pub near : t < own_tick (with_position (places variables) q) + 4294967296
  pub come : q ≤ t
  pub past : (variable : ℕ) → get_or variables.pos variable 0 ≤ t
  pub unbound : (variable : ℕ) → variables.known ≤ variable → get_or variables.pos variable 0 ≡ 0
  pub five_places : length variables.pos ≡ 5
  pub five_bytes : length variables.bytes ≡ 5
  pub few : variables.known < 5

pub record WalkFit (F : Tree) (variables : Variables) (t first leading positions size : ℕ) (len : ℕ) : Type 0 where
  pub slots : (index : ℕ) → index < positions → SlotFit F variables t (first + index) size
  pub room : positions * size ≤ len
  pub within : leading ≤ positions

-- The formula in the words from `from` to `to` of the run, its outcome in the words `index` and `index` + 2.
pub record PartFit (F : Tree) (variables : Variables) (t index from to : ℕ) (len : ℕ) : Type 0 where
  pub fit : Fit F variables t (to - from)
  pub cell : index < 2
  pub after_cell : 4 ≤ from
  pub ordered : from ≤ to
  pub inside : to ≤ len

-- ---- what they give: for every stream whose bytes are at hand and whose cells were ready, the meaning's outcome, and, where that is open, cells that
-- hold it

pub record Advanced (F : Tree) (history : List ℕ) (flag : ℕ) (variables : Variables) (s t : ℕ) (run : List ℕ) (outcome : Outcome) (run' : List ℕ) : Type 0 where
  pub gives :
      (flags : ℕ → ℕ) (h : ℕ) → AtHand flags h history flag variables t → Reach h flags (places variables) s (formula_of F) → RunReady flags t (places variables) s F run
      → (outcome ≡ out flags t (places variables) s F) × (out flags t (places variables) s F ≡ Open → RunHolds flags t (places variables) s F run')

pub record PositionAdvanced (F : Tree) (history : List ℕ) (flag : ℕ) (variables : Variables) (s t q : ℕ) (cell : List ℕ) (outcome : Outcome) (cell' : List ℕ) : Type 0 where
  pub gives :
      (flags : ℕ → ℕ) (h : ℕ) → AtHand flags h history flag variables t → (max s q ≤ q + h) × Reach h flags (with_position (places variables) q) (max s q) (formula_of F)
      → SlotReady flags t (places variables) s F q cell
      → (outcome ≡ out flags t (with_position (places variables) q) (max s q) F) × SlotHolds flags t (places variables) s F q cell'

-- Of so many positions from `first` on, those after the leading ones: all of them; or the walk stopped at one that was false, and so is the outcome.
pub record PositionsWalked (F : Tree) (history : List ℕ) (flag : ℕ) (variables : Variables) (s t first leading positions : ℕ) (end : Outcome) (size : ℕ) (run : List ℕ) (outcome : Outcome) (run' : List ℕ) : Type 0 where
  pub gives :
      ((index : ℕ) → index < leading → slot size index run' ≡ slot size index run)
      × ((flags : ℕ → ℕ) (h : ℕ) → AtHand flags h history flag variables t
      → ((index : ℕ) → leading ≤ index → index < positions → (max s (first + index) ≤ first + index + h) × Reach h flags (with_position (places variables) (first + index)) (max s (first + index)) (formula_of F))
      → ((index : ℕ) → leading ≤ index → index < positions → SlotReady flags t (places variables) s F (first + index) (slot size index run))
      → ((walk (λ q. out flags t (with_position (places variables) q) (max s q) F) positions first end ≡ walk (λ q. out flags t (with_position (places variables) q) (max s q) F) leading first outcome)
      × ((From s end → From s outcome)
      × ((index : ℕ) → leading ≤ index → index < positions → SlotHolds flags t (places variables) s F (first + index) (slot size index run'))))
      ⊎ ((index : ℕ) × (step : ℕ) × (outcome ≡ Decided False step) × (step ≤ t)
      × (walk (λ q. out flags t (with_position (places variables) q) (max s q) F) positions first end ≡ walk (λ q. out flags t (with_position (places variables) q) (max s q) F) index first outcome)))

-- What moving a part leaves as it was.
pub record Untouched (index from to : ℕ) (run run' : List ℕ) : Type 0 where
  pub long : length run' ≡ length run
  pub other : (at : ℕ) → at < from → at ≢ index → at ≢ index + 2 → get_or run' at 0 ≡ get_or run at 0
  pub front : (low high : ℕ) → 4 ≤ low → high ≤ from → window low high run' ≡ window low high run
  pub back : drop to run' ≡ drop to run

-- The outcome is decided now, or it stood in the cell already.
abbrev pub DecidedNow : (p s t index : ℕ) → List ℕ → Outcome → List ℕ → Type 0
DecidedNow p s t index run outcome run' =
    ((verdict : Verdict) (step : ℕ) → outcome ≡ Decided verdict step → t ≡ step)
    ⊎ ((run' ≡ run) × ((t ≡ s → ⊥) × (outcome ≡ held p (get_or run index 0) (get_or run (index + 2) 0))))

pub record PartAdvanced (F : Tree) (history : List ℕ) (flag : ℕ) (variables : Variables) (s t index from to : ℕ) (run : List ℕ) (outcome : Outcome) (run' : List ℕ) : Type 0 where
  pub gives :
      Untouched index from to run run'
      × ((flags : ℕ → ℕ) (h : ℕ) → AtHand flags h history flag variables t → Reach h flags (places variables) s (formula_of F)
      → Before s t (λ tick. CellHolds (own_tick (places variables)) index (out flags tick (places variables) s F) (RunHolds flags tick (places variables) s F (window from to run)) run)
      → (outcome ≡ out flags t (places variables) s F)
      × (CellHolds (own_tick (places variables)) index (out flags t (places variables) s F) (RunHolds flags t (places variables) s F (window from to run')) run'
      × DecidedNow (own_tick (places variables)) s t index run outcome run'))
