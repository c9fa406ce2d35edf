-- What a run of words holds of a formula that was started: the invariant of the cells.
use Rattle.std.specs.Prelude.{ℕ, ◌+◌, ◌-◌, ◌%◌, ◌≤◌, ◌<◌, max, ◌≡◌, List, [], ◌∷◌, ◌++◌, get_or, drop}
use Rattle.rule.specs.declared.Verdict.TheVariants.{True}
use Rattle.rule.specs.declared.Outcome.{Outcome}
use Rattle.rule.specs.declared.Outcome.TheVariants.{Decided, Open}
use Rattle.rule.specs.Meaning.{range, outcome}
use Rattle.rule.specs.Positions.{In}
use Rattle.rule.specs.Started.{Before}
use Rattle.ranges.specs.Plans.{first_of}
use Rattle.cell_runs.specs.Tree.{Tree, flag_node, not_node, then_node, beside_node, range_node, formula_of}
use Rattle.cells.specs.Cells.{CellHolds}
use Rattle.cell_runs.specs.Slots.{window, slot}
use Rattle.cells.specs.Heads.{latest_of}
use Rattle.cell_runs.specs.Leading.{Leading}

-- The outcome of a tree's formula over the ticks 0..t.
abbrev pub out : (ℕ → ℕ) → ℕ → List ℕ → ℕ → Tree → Outcome
out flags t env s F = outcome (formula_of F) flags t env s

-- The environment with one more position; the rule's own tick, from which steps in cells count.
abbrev pub with_position : List ℕ → ℕ → List ℕ
with_position env q = env ++ (q ∷ [])

abbrev pub own_tick : List ℕ → ℕ
own_tick env = get_or env 0 0

-- The run of a formula, started at s, at the horizon t.
--   not: the part's run.
--   then: one cell with F's outcome (words 0 and 2), then F's run and afterwards G's in the same words.
--   beside: one cell with F's outcome (0 and 2) and G's (1 and 3), then F's run, then G's.
--   for all: the head cell, then a slot for each position: one cell with the body's outcome (0 and 2) and the position's flag byte (1), then the
--   body's run. Position q has slot q - first.
unfoldable pub RunHolds : (ℕ → ℕ) → ℕ → List ℕ → ℕ → Tree → List ℕ → Type 0
RunHolds flags t env s (flag_node variable k) run = Unit {0}
RunHolds flags t env s (not_node F) run = RunHolds flags t env s F run
RunHolds flags t env s (then_node F G) run =
    CellHolds (own_tick env) 0 (out flags t env s F) (RunHolds flags t env s F (drop 4 run)) run
    × ((step : ℕ) → out flags t env s F ≡ Decided True step → RunHolds flags t env step G (drop 4 run))
RunHolds flags t env s (beside_node size F G) run =
    CellHolds (own_tick env) 0 (out flags t env s F) (RunHolds flags t env s F (window 4 (4 + size) run)) run
    × CellHolds (own_tick env) 1 (out flags t env s G) (RunHolds flags t env s G (drop (4 + size) run)) run
RunHolds flags t env s (range_node B₁ B₂ size F) run =
    ((q : ℕ) → In (range B₁ B₂ env) q → q ≤ t
    → (get_or (slot size (q - first_of (range B₁ B₂ env)) (drop 4 run)) 1 0 % 256 ≡ flags q)
    × CellHolds (own_tick (with_position env q)) 0 (out flags t (with_position env q) (max s q) F)
    (RunHolds flags t (with_position env q) (max s q) F (drop 4 (slot size (q - first_of (range B₁ B₂ env)) (drop 4 run))))
    (slot size (q - first_of (range B₁ B₂ env)) (drop 4 run)))
    × (Leading (λ q. out flags t (with_position env q) (max s q) F) (first_of (range B₁ B₂ env)) s (get_or run 0 0) (latest_of (own_tick env) s (get_or run 0 0) (get_or run 2 0))
    × ((index : ℕ) → index < get_or run 0 0 → In (range B₁ B₂ env) (first_of (range B₁ B₂ env) + index) × (first_of (range B₁ B₂ env) + index ≤ t)))

-- One slot, of the position q.
unfoldable pub SlotHolds : (ℕ → ℕ) → ℕ → List ℕ → ℕ → Tree → ℕ → List ℕ → Type 0
SlotHolds flags t env s F q cell =
    (get_or cell 1 0 % 256 ≡ flags q)
    × CellHolds (own_tick (with_position env q)) 0 (out flags t (with_position env q) (max s q) F) (RunHolds flags t (with_position env q) (max s q) F (drop 4 cell)) cell

-- What a step finds: any content where the formula starts now, else what holds of the tick before, when it was open.
unfoldable pub RunReady : (ℕ → ℕ) → ℕ → List ℕ → ℕ → Tree → List ℕ → Type 0
RunReady flags t env s F run = Before s t (λ tick. (out flags tick env s F ≡ Open) × RunHolds flags tick env s F run)

unfoldable pub SlotReady : (ℕ → ℕ) → ℕ → List ℕ → ℕ → Tree → ℕ → List ℕ → Type 0
SlotReady flags t env s F q cell = Before s t (λ tick. q ≤ tick → SlotHolds flags tick env s F q cell)
