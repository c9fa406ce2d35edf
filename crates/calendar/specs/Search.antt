-- Counting and seeking over the ticks first, first + 1, .., of which there are `count`; `up_tick` says which of them are up.
use Rattle.std.specs.Prelude.{ℕ, zero, suc, ◌+◌, ◌-◌, max, min, Bool, true, false, cond, ltb, Option, Some, None}

abbrev pub one_if : Bool → ℕ
one_if true = 1
one_if false = 0

-- How many of the ticks are up.
unfoldable pub tally : (ℕ → Bool) → ℕ → ℕ → ℕ
tally up_tick first zero = 0
tally up_tick first (suc count) = one_if (up_tick first) + tally up_tick (suc first) count

-- The first of them that is up.
unfoldable pub earliest : (ℕ → Bool) → ℕ → ℕ → Option ℕ
earliest up_tick first zero = None
earliest up_tick first (suc count) = cond (up_tick first) (Some first) (earliest up_tick (suc first) count)

-- The last of them that is up.
unfoldable pub latest : (ℕ → Bool) → ℕ → ℕ → Option ℕ
latest up_tick first zero = None
latest up_tick first (suc count) = cond (up_tick (first + count)) (Some (first + count)) (latest up_tick first count)

-- How far two ticks are apart.
unfoldable pub apart : ℕ → ℕ → ℕ
apart t q = max t q - min t q

-- The one of two ticks that is nearer to t; the first of two equally near.
unfoldable pub nearer : ℕ → Option ℕ → Option ℕ → Option ℕ
nearer t None other = other
nearer t (Some p) None = Some p
nearer t (Some p) (Some q) = cond (ltb (apart t q) (apart t p)) (Some q) (Some p)

-- Of the ticks 0, 1, .., count - 1 the up one nearest to t; the earlier of two equally near.
unfoldable pub nearest : (ℕ → Bool) → ℕ → ℕ → Option ℕ
nearest up_tick t zero = None
nearest up_tick t (suc count) = nearer t (nearest up_tick t count) (cond (up_tick count) (Some count) None)
