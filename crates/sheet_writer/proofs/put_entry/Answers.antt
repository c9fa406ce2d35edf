-- `sheet_writer::put_entry` meets its contract: two words are stored, one right after the other.
use mathlib.Core.Path.{◌∙◌}
use Rattle.sheet_writer.proofs.Stores.{two_words}
use Rattle.sheet_writer.proofs.put_entry.Goals as goal

pub returns : goal.returns
returns c =
    let a = c.args in
    two_words a.out.now a.at a.offset a.size c.copy_from_slice.new.self c.copy_from_slice-2.new.self
    (c.copy_from_slice.ensures.after ∙ c.to_le_bytes.ensures) (c.copy_from_slice-2.ensures.after ∙ c.to_le_bytes-2.ensures) c.requires.1.0 c.requires.1.1 c.requires.0
