-- An outcome in two words of a cell.
use Rattle.std.specs.Prelude.{ℕ, ◌+◌, ◌%◌, ◌-◌, ◌≡◌, cond, List, get_or, set, eqb}
use Rattle.rule.specs.Ticks.{clamped_at}
use Rattle.rule.specs.declared.Verdict.TheVariants.{True, False}
use Rattle.rule.specs.declared.Outcome.{Outcome}
use Rattle.rule.specs.declared.Outcome.TheVariants.{Decided, Open}

-- The step that comes so many steps after p. The sum fits 64 bits, whatever p is.
abbrev pub step_after : ℕ → ℕ → ℕ
step_after p steps = clamped_at p + steps

-- The outcome that two words of a cell hold: 1 true, 2 false, else open; and its step, counted from p.
unfoldable pub held : ℕ → ℕ → ℕ → Outcome
held p verdict steps = cond (eqb verdict 1) (Decided True (step_after p steps)) (cond (eqb verdict 2) (Decided False (step_after p steps)) Open)

-- A word of a cell and the second word after it hold the outcome; where that is open, R.
abbrev pub CellHolds : ℕ → ℕ → Outcome → Type 0 → List ℕ → Type 0
CellHolds p index outcome R cell = (outcome ≡ held p (get_or cell index 0) (get_or cell (index + 2) 0)) × (outcome ≡ Open → R)

-- A step counted from p, in a word.
abbrev pub since : ℕ → ℕ → ℕ
since p step = (step - p) % 4294967296

-- A cell with an outcome written into a word and the second word after it.
unfoldable pub mark : ℕ → ℕ → Outcome → List ℕ → List ℕ
mark p index Open cell = set cell index 0
mark p index (Decided True step) cell = set (set cell (index + 2) (since p step)) index 1
mark p index (Decided False step) cell = set (set cell (index + 2) (since p step)) index 2
