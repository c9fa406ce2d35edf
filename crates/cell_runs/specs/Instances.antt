-- The instances of a rule, each in its own run of cells, and what moving them by one tick requires and gives.
use Rattle.std.specs.Prelude.{ℕ, ◌+◌, ◌*◌, ◌-◌, ◌%◌, ◌≤◌, ◌<◌, ◌≡◌, cond, List, [], ◌∷◌, ◌++◌, drop, length}
use Rattle.rule.specs.declared.Outcome.{Outcome}
use Rattle.rule.specs.Meaning.{rule}
use Rattle.rule.specs.Figures.{at_tick}
use Rattle.rule.specs.Steps.{false_at, is_open, passing}
use Rattle.rule.specs.Started.{Before, Reach}
use Rattle.cell_runs.specs.Tree.{Tree, formula_of, words, Formed}
use Rattle.cell_runs.specs.Slots.{slot}
use Rattle.cell_runs.specs.Run.{SlotHolds}
use Rattle.cell_runs.specs.Calls.{FlagsAtHand}

-- ---- one instance: a range's position p with no variable before it, started at p

-- The run of the instance of tick p at the horizon t: its cell, then the formula's run.
abbrev pub InstanceHolds : (ℕ → ℕ) → Tree → ℕ → ℕ → List ℕ → Type 0
InstanceHolds flags F t p cell = SlotHolds flags t [] p F p cell

pub record InstanceFit (F : Tree) (t p len : ℕ) : Type 0 where
  pub formed : Formed (at_tick ∷ []) F
  pub room : 4 + words (at_tick ∷ []) F ≤ len
  pub low : t < 4611686018427387904
  pub come : p ≤ t
  pub near : t < p + 4294967296

pub record InstanceMoved (F : Tree) (history : List ℕ) (flag t p : ℕ) (cell : List ℕ) (outcome : Outcome) (cell' : List ℕ) : Type 0 where
  pub gives :
      (flags : ℕ → ℕ) (h : ℕ) → FlagsAtHand flags h history flag t → Reach h flags (p ∷ []) p (formula_of F)
      → Before p t (λ tick. InstanceHolds flags F tick p cell)
      → (outcome ≡ rule (formula_of F) flags t p) × InstanceHolds flags F t p cell'

-- ---- all instances that can be open: those of the last `count` ticks, tick p in slot p mod `count` of `size` words

-- Tick p where it is false at step t.
unfoldable pub tick_if_false : Outcome → ℕ → ℕ → List ℕ
tick_if_false outcome t p = cond (false_at t outcome) (p ∷ []) []

-- The cells are what the ticks before tick t leave. Before tick 0 that is anything.
unfoldable pub InstancesHold : Tree → ℕ → ℕ → (ℕ → ℕ) → ℕ → List ℕ → Type 0
InstancesHold F count size flags t cells = (last p : ℕ) → t ≡ last + 1 → p ≤ last → last < p + count → InstanceHolds flags F last p (slot size (p % count) cells)

-- What is required: nothing of what the cells hold.
pub record TicksFit (F : Tree) (t count size len words' : ℕ) : Type 0 where
  pub formed : Formed (at_tick ∷ []) F
  pub room : 4 + words (at_tick ∷ []) F ≤ size
  pub low : t < 4611686018427387904
  pub some : 0 < count
  pub few : count ≤ 256
  pub table : count * size ≤ len
  pub report : count ≤ words'

-- What is left as it was, whatever the cells held, and how much can be answered: `writable` words of the table may be written.
pub record Spared (count writable : ℕ) (table report₀ : List ℕ) (reported live : ℕ) (table' report' : List ℕ) : Type 0 where
  pub table_rest : drop writable table' ≡ drop writable table
  pub report_rest : drop reported report' ≡ drop reported report₀
  pub few : reported ≤ count
  pub few_live : live ≤ count

-- The ticks from `low` to t were moved: for every stream whose flags are at hand and for which the cells stand.
pub record TicksMoved (F : Tree) (count size : ℕ) (history : List ℕ) (flag t low : ℕ) (table report₀ : List ℕ) (reported live : ℕ) (table' report' : List ℕ) : Type 0 where
  pub gives :
      (flags : ℕ → ℕ) (h : ℕ) → FlagsAtHand flags h history flag t → ((p : ℕ) → Reach h flags (p ∷ []) p (formula_of F)) → InstancesHold F count size flags t table
      → (reported ≡ length (passing (false_at t) (rule (formula_of F) flags t) (t + 1 - low) low))
      × ((report' ≡ passing (false_at t) (rule (formula_of F) flags t) (t + 1 - low) low ++ drop reported report₀)
      × ((live ≡ length (passing is_open (rule (formula_of F) flags t) (t + 1 - low) low))
      × InstancesHold F count size flags (t + 1) table'))
