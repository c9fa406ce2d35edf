-- `text_pieces::bounds::offset_end` meets its contract: after a sign the digits decide.
use Rattle.text_pieces.proofs.Parsing.{offset_signed}
use Rattle.text_pieces.proofs.bounds.offset_end.Goals as goal

pub returns-in-Some : goal.returns-in-Some
returns-in-Some c = let a = c.args in offset_signed a.text.now a.at c.numeral_end.result c.word_end.result c.word_end-2.result c.or-sign.result c.or-sign.ensures c.word_end.ensures c.word_end-2.ensures c.in-Some.digits c.in-Some.is c.numeral_end.ensures
