-- `body_to_text::writer::Writer::put_rule` meets its contract.
use Rattle.nodes.specs.Table.{formula_in}
use Rattle.body_to_text.proofs.Storing.{wrote_as, wrote_then}
use Rattle.body_to_text.proofs.Spellings.{rule_spelt}
use Rattle.body_to_text.proofs.writer.Writer.put_rule.Goals as goal

pub returns : goal.returns
returns c =
    let F = formula_in 64 c.args.nodes.now 0 0 in
    λ h. wrote_as (rule_spelt F) (wrote_then c.put_word.ensures (c.put_formula.ensures.stored h))
