-- What it means that a written sheet reads back, document 01, "The sheet".
use Rattle.std.specs.Prelude.{ℕ, ◌≤◌, ◌<◌, ◌≡◌, List, length}
use Rattle.refusal.specs.Answer.{refused, accepted}
use Rattle.sheet.specs.Sheet.{rule_body}
use Rattle.sheet_writer.specs.Writing.{sheet_of, kth_body}

-- What the writer answers is the sheet's length; the reader gives back each of the bodies that were joined end to end, and no other.
pub record ReadsBack (lengths joined : List ℕ) (size : ℕ) : Type 0 where
  pub size_is : length (sheet_of lengths joined) ≡ size
  pub bodies : (rule : ℕ) → rule < length lengths → rule_body (sheet_of lengths joined) rule ≡ accepted (kth_body lengths joined rule)
  pub beyond : (rule : ℕ) → length lengths ≤ rule → rule_body (sheet_of lengths joined) rule ≡ refused 3
