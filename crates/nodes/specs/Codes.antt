-- The number of each code and kind, 01's own. In a table every code but 2 to 5 is a flag's, and every kind but 0 and 1 a variable's.
use Rattle.std.specs.Prelude.{ℕ, ◌≡◌}
use Rattle.nodes.specs.declared.codes.Code.{Code}
use Rattle.nodes.specs.declared.codes.Code.TheVariants.{Flag, Not, Then, Beside, ForAll}
use Rattle.nodes.specs.declared.codes.Kind.{Kind}
use Rattle.nodes.specs.declared.codes.Kind.TheVariants.{Origin, Infinity, Variable}

abbrev pub IsCode : ℕ → Code → Type 0
IsCode word Flag = (word ≡ 2 → ⊥) × (word ≡ 3 → ⊥) × (word ≡ 4 → ⊥) × (word ≡ 5 → ⊥)
IsCode word Not = word ≡ 2
IsCode word Then = word ≡ 3
IsCode word Beside = word ≡ 4
IsCode word ForAll = word ≡ 5

abbrev pub IsKind : ℕ → Kind → Type 0
IsKind word Origin = word ≡ 0
IsKind word Infinity = word ≡ 1
IsKind word Variable = (word ≡ 0 → ⊥) × (word ≡ 1 → ⊥)
