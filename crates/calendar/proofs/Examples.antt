-- What the definitions say of two runs and a word, worked out: flag bytes 1, 0, 3 at the ticks 0 to 2 and 128 at tick 64.
use Prim.Native.Nat.{ℕ}
use mathlib.Core.Path.{◌≡◌, refl}
use mathlib.Core.List.{List, [], ◌∷◌}
use Rattle.rule.specs.Meaning.{up}
use Rattle.std.specs.Prelude.{Some, None}
use Rattle.calendar.specs.Search.{tally, earliest, latest, apart, nearer, nearest}
use Rattle.calendar.specs.Calendar.{kept, run_word, up_at, span, ups, first_up, last_up, nearest_up, each, cleared_word, cleared, with_bit, flagged, marked_word, marked, filled}

-- Seventeen words, none of them 0.
abbrev lent : List ℕ
lent = 1 ∷ 2 ∷ 3 ∷ 4 ∷ 5 ∷ 6 ∷ 7 ∷ 8 ∷ 9 ∷ 10 ∷ 11 ∷ 12 ∷ 13 ∷ 14 ∷ 15 ∷ 16 ∷ 17 ∷ []

-- Flag 0 is up at ticks 0 and 2, flag 1 at tick 2, flag 7 at tick 64; the last word is as it was lent.
abbrev after : List ℕ
after = 5 ∷ 4 ∷ 0 ∷ 0 ∷ 0 ∷ 0 ∷ 0 ∷ 0 ∷ 0 ∷ 0 ∷ 0 ∷ 0 ∷ 0 ∷ 0 ∷ 0 ∷ 1 ∷ 17 ∷ []

pub kept_ticks : kept lent ≡ 128
unfolding kept
kept_ticks = refl

pub words_after : filled (filled (cleared lent) 0 (1 ∷ 0 ∷ 3 ∷ [])) 64 (128 ∷ []) ≡ after
unfolding filled cleared each cleared_word marked marked_word flagged with_bit kept up
words_after = refl

-- A tick past the words is not kept.
pub not_kept : marked after 128 255 ≡ after
unfolding marked kept
not_kept = refl

pub two_ups : ups after 0 0 63 ≡ 2
unfolding ups tally span kept up_at run_word up
two_ups = refl

-- A range has both its ends in it, and is empty if the first is the larger.
pub one_up : ups after 0 2 2 ≡ 1
unfolding ups tally span kept up_at run_word up
one_up = refl

pub no_up : ups after 0 2 1 ≡ 0
unfolding ups tally span kept up_at run_word up
no_up = refl

pub first_found : first_up after 7 0 18446744073709551615 ≡ Some 64
unfolding first_up earliest span kept up_at run_word up
first_found = refl

pub last_found : last_up after 0 0 63 ≡ Some 2
unfolding last_up latest span kept up_at run_word up
last_found = refl

pub none_found : first_up after 2 0 127 ≡ None
unfolding first_up earliest span kept up_at run_word up
none_found = refl

-- Ticks 0 and 2 are equally near to tick 1.
pub earlier_found : nearest_up after 0 1 ≡ Some 0
unfolding nearest_up nearest nearer apart kept up_at run_word up
earlier_found = refl
