-- The ticks that steps take: those below 2^62.
use Rattle.std.specs.Prelude.{ℕ, min}

-- A position or a tick, clamped to the first tick that no step takes (document 02, point 7: "every tick from 4,611,686,018,427,387,904 on"). So its sum with an offset,
-- or with a number of steps, is exact in signed 64 bits; and up to there nothing changes.
abbrev pub clamped_at : ℕ → ℕ
clamped_at tick = min tick 4611686018427387904
