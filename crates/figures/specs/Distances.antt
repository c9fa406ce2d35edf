-- How far from the rule's tick the pairs of bound variables lie: no sum of the code can overflow.
use Rattle.std.specs.Prelude.{ℕ, ◌≤◌, List, get_or, nat_abs}
use Rattle.rule.specs.Figures.{anywhere}
use Rattle.rule.specs.declared.Limit.{Limit}
use Rattle.rule.specs.declared.Limit.TheVariants.{Lowest, At, Highest}
use Rattle.rule.specs.declared.Size.{Size}
use Rattle.rule.specs.declared.Size.TheVariants.{Finite, Unbounded}
use Rattle.rule.specs.declared.Pair.{Pair}

-- How far off a limit lies; an infinite one counts as the tick itself.
abbrev pub distance_of : Limit → ℕ
distance_of Lowest = 0
distance_of (At distance) = nat_abs distance
distance_of Highest = 0

-- A limit that lies within `reach` of the tick, or is infinite.
abbrev pub Near : ℕ → Limit → Type 0
Near reach limit = distance_of limit ≤ reach

abbrev pub NearPair : ℕ → Pair → Type 0
NearPair reach pair = Near reach pair.lower × Near reach pair.upper

abbrev pub AllNear : ℕ → List Pair → Type 0
AllNear reach ps = (variable : ℕ) → NearPair reach (get_or ps variable anywhere)

-- The farthest that 4 quantifiers reach, whose offsets have 16 bits: 4 times 32,768.
abbrev pub farthest : ℕ
farthest = 131072

-- A size that is no farther, or infinite.
abbrev pub Modest : Size → Type 0
Modest (Finite size) = size ≤ farthest
Modest Unbounded = Unit {0}
