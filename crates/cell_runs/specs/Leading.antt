-- The head cell of a range: how many leading positions are true (word 0), and the latest of their steps (word 2). A step need not look at these
-- positions again.
use Rattle.std.specs.Prelude.{ℕ, zero, suc, ◌+◌, ◌*◌, ◌%◌, ◌≤◌, ◌<◌, max, ◌≡◌, ◌⊎◌, List, get_or, drop}
use Rattle.rule.specs.declared.Verdict.TheVariants.{True}
use Rattle.rule.specs.declared.Outcome.{Outcome}
use Rattle.rule.specs.declared.Outcome.TheVariants.{Decided}
use Rattle.cells.specs.Cells.{since, step_after}
use Rattle.cell_runs.specs.Slots.{slot}

-- The first `count` positions are true, and `latest` is the latest of s and their steps.
unfoldable pub Leading : (ℕ → Outcome) → ℕ → ℕ → ℕ → ℕ → Type 0
Leading outcomes first s zero latest = latest ≡ s
Leading outcomes first s (suc count) latest = (earlier : ℕ) × (step : ℕ) × Leading outcomes first s count earlier × (outcomes (first + count) ≡ Decided True step) × (latest ≡ max earlier step)

-- The head moved on over the slots, while they hold true.
pub record MovedOn (p size positions : ℕ) (slots : List ℕ) (leading latest leading' latest' : ℕ) : Type 0 where
  pub low : leading ≤ leading'
  pub high : leading' ≤ positions
  pub after_tick : ((leading' ≡ leading) × (latest' ≡ latest)) ⊎ (step_after p 0 ≤ latest')
  pub true_so_far : (outcomes : ℕ → Outcome) (first s : ℕ)
      → ((index : ℕ) → leading ≤ index → index < positions → get_or (slot size index slots) 0 0 ≡ 1 → outcomes (first + index) ≡ Decided True (step_after p (get_or (slot size index slots) 2 0)))
      → Leading outcomes first s leading latest → Leading outcomes first s leading' latest'

-- A range's run whose head was moved on and written.
pub record HeadMoved (p size positions : ℕ) (run : List ℕ) (leading latest : ℕ) (run' : List ℕ) : Type 0 where
  pub leading' : ℕ
  pub latest' : ℕ
  pub moved : MovedOn p size positions (drop 4 run) leading latest leading' latest'
  pub slots_kept : drop 4 run' ≡ drop 4 run
  pub leading_word : get_or run' 0 0 ≡ leading' % 4294967296
  pub latest_word : get_or run' 2 0 ≡ since p latest'

pub record HeadFit (size positions leading len : ℕ) : Type 0 where
  pub room : 4 + positions * size ≤ len
  pub slots : 0 < positions → 4 ≤ size
  pub within : leading ≤ positions
