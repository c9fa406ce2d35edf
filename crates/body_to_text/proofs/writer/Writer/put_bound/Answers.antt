-- `body_to_text::writer::Writer::put_bound` meets its contract, kind by kind.
use Rattle.body_to_text.proofs.Spellings.{bound_origin, bound_infinity, bound_variable}
use Rattle.body_to_text.proofs.Storing.{wrote_then, wrote_as}
use Rattle.body_to_text.proofs.writer.Writer.put_bound.Goals as goal

pub returns-in-Origin : goal.returns-in-Origin
returns-in-Origin c =
    let a = c.args in
    wrote_as (bound_origin a.nodes.now a.bound c.in-Origin.ensures c.node_word.ensures) (wrote_then c.put.ensures c.put_offset.ensures)

pub returns-in-Infinity : goal.returns-in-Infinity
returns-in-Infinity c =
    let a = c.args in wrote_as (bound_infinity a.nodes.now a.bound c.in-Infinity.ensures) c.put_word.ensures

pub returns-in-Variable : goal.returns-in-Variable
returns-in-Variable c =
    let a = c.args in
    let k = c.in-Variable.ensures in
    wrote_as (bound_variable a.nodes.now a.bound k.0 k.1 c.node_word-in-Variable.ensures c.node_word-in-Variable-2.ensures)
    (wrote_then c.put_name.ensures c.put_offset-in-Variable.ensures)
