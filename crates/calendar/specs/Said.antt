-- What the questions answer, said of each tick: the first and the last that is up, the nearest, "the earlier of two equally near", and none exactly where no tick is up.
use Rattle.std.specs.Prelude.{ℕ, ◌+◌, ◌≤◌, ◌<◌, ◌≡◌, Bool, true, false, ◌&&◌, List, leb, Option, Some, None}
use Rattle.calendar.specs.Search.{tally, apart}
use Rattle.calendar.specs.Calendar.{kept, up_at}

-- ---- of the ticks first, first + 1, .., of which there are `count`

unfoldable pub First : (ℕ → Bool) → ℕ → ℕ → Option ℕ → Type 0
First up_tick first count (Some p) = (first ≤ p) × (p < first + count) × (up_tick p ≡ true) × ((q : ℕ) → first ≤ q → q < p → up_tick q ≡ false)
First up_tick first count None = (q : ℕ) → first ≤ q → q < first + count → up_tick q ≡ false

unfoldable pub Last : (ℕ → Bool) → ℕ → ℕ → Option ℕ → Type 0
Last up_tick first count (Some p) = (first ≤ p) × (p < first + count) × (up_tick p ≡ true) × ((q : ℕ) → p < q → q < first + count → up_tick q ≡ false)
Last up_tick first count None = (q : ℕ) → first ≤ q → q < first + count → up_tick q ≡ false

unfoldable pub Near : (ℕ → Bool) → ℕ → ℕ → Option ℕ → Type 0
Near up_tick t count (Some p) =
    (p < count) × (up_tick p ≡ true) × ((q : ℕ) → q < count → up_tick q ≡ true → apart t p ≤ apart t q)
    × ((q : ℕ) → q < p → up_tick q ≡ true → apart t p < apart t q)
Near up_tick t count None = (q : ℕ) → q < count → up_tick q ≡ false

-- ---- of the kept ticks of a calendar

-- Tick q lies in the range from `first` to `last`, "both its ends in it", "cut at the last kept tick".
abbrev pub InRange : List ℕ → ℕ → ℕ → ℕ → Type 0
InRange words first last q = (first ≤ q) × (q ≤ last) × (q < kept words)

-- The same as a test: whether tick q lies from `first` to `last`.
abbrev pub between : ℕ → ℕ → ℕ → Bool
between first last q = leb first q && leb q last

-- The number of ups in it is that of all kept ticks that lie in it and are up.
abbrev pub UpsIn : List ℕ → ℕ → ℕ → ℕ → ℕ → Type 0
UpsIn words k first last count = count ≡ tally (λ q. between first last q && up_at words k q) 0 (kept words)

abbrev pub FirstUp : List ℕ → ℕ → ℕ → ℕ → Option ℕ → Type 0
FirstUp words k first last (Some p) = InRange words first last p × (up_at words k p ≡ true) × ((q : ℕ) → InRange words first last q → q < p → up_at words k q ≡ false)
FirstUp words k first last None = (q : ℕ) → InRange words first last q → up_at words k q ≡ false

abbrev pub LastUp : List ℕ → ℕ → ℕ → ℕ → Option ℕ → Type 0
LastUp words k first last (Some p) = InRange words first last p × (up_at words k p ≡ true) × ((q : ℕ) → InRange words first last q → p < q → up_at words k q ≡ false)
LastUp words k first last None = (q : ℕ) → InRange words first last q → up_at words k q ≡ false

abbrev pub NearestUp : List ℕ → ℕ → ℕ → Option ℕ → Type 0
NearestUp words k t found = Near (up_at words k) t (kept words) found
