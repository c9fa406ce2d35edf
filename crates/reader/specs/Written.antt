-- A node's words, as the reader writes them.
use Rattle.std.specs.Prelude.{ℕ, ◌+◌, ◌*◌, ◌-◌, ◌<◌, ◌≡◌, cond, List, ltb, eqb, get_or}
use Rattle.words.specs.Words.{byte, word}

-- The word at which a formula's node starts, where so many formulas are left of 64.
abbrev pub node_start : ℕ → ℕ
node_start left = 12 * (64 - left)

-- Word `index` (0 to 6) of the node of the formula whose bytes start at a position: code, variable and flag; or code and the two bounds.
unfoldable pub head_word : List ℕ → ℕ → ℕ → ℕ
head_word bytes at index =
    cond (ltb index 3) (byte bytes (at + index))
    (cond (eqb index 3) (word bytes (at + 3))
    (cond (eqb index 6) (word bytes (at + 7)) (byte bytes (at + (index + 1)))))

-- The node that starts at word `node` has these words, and no word before it changed.
pub record Headed (bytes : List ℕ) (at node : ℕ) (old new : List ℕ) : Type 0 where
  pub words : (index : ℕ) → index < 7 → get_or new (node + index) 0 ≡ head_word bytes at index
  pub below : (index : ℕ) → index < node → get_or new index 0 ≡ get_or old index 0
