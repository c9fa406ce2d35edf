-- Parts of a run: some of its words, and slots of one size.
use Rattle.std.specs.Prelude.{ℕ, ◌*◌, ◌-◌, List, take, drop}

-- The words from `start` to `end`; the slot with this index, of `size` words.
abbrev pub window : ℕ → ℕ → List ℕ → List ℕ
window start end run = take (end - start) (drop start run)

abbrev pub slot : ℕ → ℕ → List ℕ → List ℕ
slot size index run = take size (drop (index * size) run)
