-- `body_to_text::writer::Writer::put_range` meets its contract.
use Rattle.body_to_text.specs.Parts.{range_text}
use Rattle.body_to_text.proofs.Storing.{wrote_then}
use Rattle.body_to_text.proofs.writer.Writer.put_range.Goals as goal

pub returns : goal.returns
unfolding range_text
returns c =
    wrote_then c.put_word.ensures
    (wrote_then c.put_name.ensures
    (wrote_then c.put_word-2.ensures
    (wrote_then c.put_bound.ensures
    (wrote_then c.put_word-3.ensures
    (wrote_then c.put_bound-2.ensures c.put_word-4.ensures)))))
