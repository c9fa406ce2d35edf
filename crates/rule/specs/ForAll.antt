-- "For all" in document 01's own sentence. The definition of `every` (Meaning.antt) folds the bodies' outcomes; proofs/Every.antt shows that the two say the same.
use Rattle.std.specs.Prelude.{ℕ, ◌≤◌, ◌≡◌}
use Rattle.rule.specs.declared.Verdict.TheVariants.{True, False}
use Rattle.rule.specs.declared.Outcome.{Outcome}
use Rattle.rule.specs.declared.Outcome.TheVariants.{Decided, Open}
use Rattle.rule.specs.declared.Range.{Range}
use Rattle.rule.specs.declared.Range.TheVariants.{Empty, Through, Onward}
use Rattle.rule.specs.Positions.{In}

-- `step` is "the smallest step at which a body is false", of these positions.
abbrev pub Smallest : (ℕ → Type 0) → (ℕ → Outcome) → ℕ → Type 0
Smallest among outcomes step =
    ((q : ℕ) × among q × (outcomes q ≡ Decided False step))
    × ((q : ℕ) → among q → (other : ℕ) → outcomes q ≡ Decided False other → step ≤ other)

-- "All bodies are true", and `step` is "the largest of their steps".
abbrev pub Largest : (ℕ → Type 0) → (ℕ → Outcome) → ℕ → Type 0
Largest among outcomes step =
    ((q : ℕ) → among q → (other : ℕ) × (outcomes q ≡ Decided True other) × (other ≤ step))
    × ((q : ℕ) × among q × (outcomes q ≡ Decided True step))

-- "False at the smallest step at which a body is false; true if p2 is at most t and all bodies are true, at the largest of their steps;
-- else open." Of these positions; `ended` says that p2 is at most t.
abbrev pub Sentence : (ℕ → Type 0) → Type 0 → (ℕ → Outcome) → Outcome → Type 0
Sentence among ended outcomes (Decided False step) = Smallest among outcomes step
Sentence among ended outcomes (Decided True step) = ended × Largest among outcomes step
Sentence among ended outcomes Open = ((step : ℕ) → Smallest among outcomes step → ⊥) × ((step : ℕ) → ended → Largest among outcomes step → ⊥)

-- The whole of 01's "For all", by the range's positions.
abbrev pub Said : Range → (ℕ → Outcome) → ℕ → ℕ → Outcome → Type 0
Said Empty outcomes t s outcome = outcome ≡ Decided True s
Said (Through first last) outcomes t s outcome = Sentence (In (Through first last)) (last ≤ t) outcomes outcome
Said (Onward first) outcomes t s outcome = Sentence (In (Onward first)) ⊥ outcomes outcome
