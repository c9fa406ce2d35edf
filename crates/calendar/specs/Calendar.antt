-- The flag calendar, document 02, point 5: "for each flag and each run of 64 ticks, one 64-bit word with a bit for every tick at which the flag was up. Run r of
-- flag k is word 8r + k, its tick 64r + i the bit worth 2^i".
use Rattle.std.specs.Prelude.{ℕ, suc, ◌+◌, ◌-◌, ◌*◌, ◌/◌, ◌%◌, ◌^◌, min, Bool, cond, List, [], ◌∷◌, ltb, eqb, length, get_or, Option}
use Rattle.rule.specs.Meaning.{up}
use Rattle.rule.specs.Recording.{recorded}
use Rattle.calendar.specs.Search.{tally, earliest, latest, nearest}

-- ---- ticks

-- How many ticks the words keep: 64 for each full group of eight.
unfoldable pub kept : List ℕ → ℕ
kept words = 64 * (length words / 8)

-- The word of flag k in which tick q lies.
unfoldable pub run_word : List ℕ → ℕ → ℕ → ℕ
run_word words k q = get_or words (8 * (q / 64) + k) 0

-- Whether flag k was up at tick q.
unfoldable pub up_at : List ℕ → ℕ → ℕ → Bool
up_at words k q = up (q % 64) (run_word words k q)

-- Whether flag k is up at tick q of a stream; at ticks that it does not have, it is not.
abbrev pub flag_up : List ℕ → ℕ → ℕ → Bool
flag_up bytes k q = up k (recorded bytes q)

-- ---- questions

-- "A range has both its ends in it and is empty if the first is the larger. A range past the last kept tick is cut there": how many ticks it then has.
unfoldable pub span : ℕ → ℕ → ℕ → ℕ
span end first last = min (suc last) end - first

-- "the number of ups in any tick range"
unfoldable pub ups : List ℕ → ℕ → ℕ → ℕ → ℕ
ups words k first last = tally (up_at words k) first (span (kept words) first last)

-- "the first and last up in it"
unfoldable pub first_up : List ℕ → ℕ → ℕ → ℕ → Option ℕ
first_up words k first last = earliest (up_at words k) first (span (kept words) first last)

unfoldable pub last_up : List ℕ → ℕ → ℕ → ℕ → Option ℕ
last_up words k first last = latest (up_at words k) first (span (kept words) first last)

-- "the up nearest to a tick, the earlier of two equally near", "sought among all kept ticks"
unfoldable pub nearest_up : List ℕ → ℕ → ℕ → Option ℕ
nearest_up words k t = nearest (up_at words k) t (kept words)

-- ---- words

-- The list of `change place word`, for each word and its place.
unfoldable pub each : (ℕ → ℕ → ℕ) → ℕ → List ℕ → List ℕ
each change place [] = []
each change place (word ∷ words) = change place word ∷ each change (suc place) words

-- Opening: "zeroes the words, and a last group under eight keeps its content".
unfoldable pub cleared_word : ℕ → ℕ → ℕ → ℕ
cleared_word count place word = cond (ltb place count) 0 word

unfoldable pub cleared : List ℕ → List ℕ
cleared words = each (cleared_word (8 * (length words / 8))) 0 words

-- A word with the bit worth 2^bit in it.
unfoldable pub with_bit : ℕ → ℕ → ℕ
with_bit bit word = cond (up bit word) word (word + 2 ^ bit)

-- The word of flag k, with the bit worth 2^bit in it if the flag is up in the byte.
unfoldable pub flagged : ℕ → ℕ → ℕ → ℕ → ℕ
flagged bit flags k word = cond (up k flags) (with_bit bit word) word

-- Tick t with its flag byte: the words of run t / 64 get the bit of t, each where its flag is up.
unfoldable pub marked_word : ℕ → ℕ → ℕ → ℕ → ℕ
marked_word t flags place word = cond (eqb (place / 8) (t / 64)) (flagged (t % 64) flags (place % 8) word) word

-- "Ticks past the lent words are not kept."
unfoldable pub marked : List ℕ → ℕ → ℕ → List ℕ
marked words t flags = cond (ltb t (kept words)) (each (marked_word t flags) 0 words) words

-- The flag bytes of the ticks t, t + 1, .. marked one after another.
unfoldable pub filled : List ℕ → ℕ → List ℕ → List ℕ
filled words t [] = words
filled words t (flags ∷ bytes) = filled (marked words t flags) (suc t) bytes
