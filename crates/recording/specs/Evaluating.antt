-- What the formula evaluator and the range walker require and answer.
use Rattle.std.specs.Prelude.{ℕ, suc, ◌+◌, ◌*◌, ◌≤◌, ◌<◌, ◌≡◌, Bool, false, List, [], ◌∷◌, leb, length, get_or, take, set}
use Rattle.rule.specs.declared.Verdict.TheVariants.{True, False}
use Rattle.rule.specs.declared.Outcome.{Outcome}
use Rattle.rule.specs.declared.Outcome.TheVariants.{Decided, Open}
use Rattle.recording.specs.declared.env.Env.{Env}

-- The positions of the variables that are bound.
abbrev pub bound_positions : Env → List ℕ
bound_positions env = take (suc env.depth) env.pos

-- The environment of the rule at tick p: "variable 0 equal to p".
abbrev pub started : ℕ → Env
started p = record { depth = 0; pos = p ∷ (0 ∷ (0 ∷ (0 ∷ (0 ∷ [])))) }

-- The environment inside one more quantifier, whose variable stands at q.
abbrev pub entered : Env → ℕ → Env
entered env q = record { depth = env.depth + 1; pos = set env.pos (env.depth + 1) q }

-- An outcome that no formula started at this step or later, beside it, can change: false by then.
abbrev pub false_by : Outcome → ℕ → Bool
false_by (Decided True step) start = false
false_by (Decided False step) start = leb step start
false_by Open start = false

-- Before a formula is evaluated at word `node`, with `left` formulas left: no word's number is past 64 bits, and no sum of a position and an
-- offset; the variables stand at positions up to t, and those that are not bound at 0.
pub record Evaluable (left node t : ℕ) (env : Env) : Type 0 where
  pub few : left ≤ 64
  pub near : node + 12 * left ≤ 4294968064
  pub early : t < 4611686018427387904
  pub nested : env.depth ≤ 4
  pub five : length env.pos ≡ 5
  pub clear : (variable : ℕ) → env.depth < variable → get_or env.pos variable 0 ≡ 0
  pub within : (variable : ℕ) → get_or env.pos variable 0 ≤ t
