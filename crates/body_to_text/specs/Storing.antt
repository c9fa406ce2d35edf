-- What a function that stores text at a position of a buffer promises.
use Rattle.body_to_text.specs.declared.writer.Writer.{Writer}
use Rattle.std.specs.Prelude.{ℕ, ◌+◌, ◌≤◌, ◌≡◌, List, ◌++◌, length, take}

-- The buffer keeps its length; and where it has room for the text, the text follows what stood before the position, up to the position answered.
pub record Wrote (text old : List ℕ) (at : ℕ) (new : List ℕ) (next : ℕ) : Type 0 where
  pub kept : length new ≡ length old
  pub wrote : at + length text ≤ length old → (next ≡ at + length text) × (take next new ≡ take at old ++ text)

-- .. of a writer.
abbrev pub Adds : List ℕ → Writer → Writer → Type 0
Adds text old new = Wrote text old.bytes old.at new.bytes new.at
