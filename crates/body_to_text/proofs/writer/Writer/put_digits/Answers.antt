-- `body_to_text::writer::Writer::put_digits` meets its contract: one to four digits.
use Prim.Native.Nat.{ℕ}
use mathlib.Core.Path.{ap}
use mathlib.Core.List.{[], ◌∷◌}
use Rattle.body_to_text.proofs.Spellings.{all_digits}
use Rattle.body_to_text.proofs.Storing.{wrote_then, wrote_as}
use Rattle.body_to_text.proofs.writer.Writer.put_digits.Goals as goal

pub returns : goal.returns
returns c =
    wrote_as (all_digits c.args.number)
    (wrote_then c.put_digit.ensures
    (wrote_then c.put_digit-2.ensures
    (wrote_then c.put_digit-3.ensures (wrote_as (ap (λ (d : ℕ). d ∷ []) c.digit.ensures) c.put.ensures))))
