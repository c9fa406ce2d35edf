-- Words for contracts inside the crate: the ticks that a masked word shows, and ticks of which none is up.
use Rattle.std.specs.Prelude.{ℕ, ◌+◌, ◌^◌, ◌<◌, ◌≤◌, ◌≡◌, Bool, false}
use Rattle.rule.specs.Meaning.{up}
use Rattle.calendar.specs.Calendar.{kept, up_at}
use Rattle.calendar_questions.specs.declared.flag_words.FlagWords.{FlagWords}

-- The ticks at which the flag is up, and how many ticks its words keep.
abbrev pub up_of : FlagWords → ℕ → Bool
up_of words = up_at words.words.now words.flag

abbrev pub kept_of : FlagWords → ℕ
kept_of words = kept words.words.now

-- The `count` ticks from q on are up as the digits of `word` are set, and it has no others.
unfoldable pub Shown : (ℕ → Bool) → ℕ → ℕ → ℕ → Type 0
Shown up_tick q count word = (word < 2 ^ count) × ((place : ℕ) → place < count → up_tick (q + place) ≡ up place word)

-- None of the ticks from `first` to before `end` is up.
unfoldable pub Quiet : (ℕ → Bool) → ℕ → ℕ → Type 0
Quiet up_tick first end = (q : ℕ) → first ≤ q → q < end → up_tick q ≡ false
