-- `body_to_text::writer::Writer::put_flag` meets its contract.
use Rattle.body_to_text.proofs.Spellings.{flag_spelt}
use Rattle.body_to_text.proofs.Storing.{wrote_then, wrote_as}
use Rattle.body_to_text.proofs.writer.Writer.put_flag.Goals as goal

pub returns : goal.returns
returns c =
    let a = c.args in
    λ h. wrote_as (flag_spelt a.variable a.k c.digit.result h c.digit.ensures)
    (wrote_then c.put.ensures (wrote_then c.put_name.ensures (wrote_then c.put-2.ensures c.put-3.ensures)))
