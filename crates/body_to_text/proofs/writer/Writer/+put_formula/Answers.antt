-- `body_to_text::writer::Writer::put_formula` meets its contract: the text is the definition's, for any table.
use native.Mathlib.Omega.{arith}
use Rattle.body_to_text.proofs.Places.{placed, at_end, at_not, at_two, at_deep, at_range, at_flag}
use Rattle.body_to_text.proofs.writer.Writer.+put_formula.Goals as goal

pub returns-then-place-eq0 : goal.returns-then-place-eq0
returns-then-place-eq0 t c = at_end c.args.nodes.now c.args.place c.if-place-eq0.true c.put_flag.ensures

pub returns-in-Not : goal.returns-in-Not
returns-in-Not t c =
    at_not c.args.nodes.now c.args.place c.if-place-eq0.false c.in-Not.ensures c.put.ensures (placed c.part.ensures c.put_formula.ensures)

pub returns-in-Then : goal.returns-in-Then
returns-in-Then t c =
    at_two c.args.nodes.now c.args.place c.if-place-eq0.false c.code_at-code.ensures c.in-Then.is c.node_word-second.ensures c.put-in-Then.ensures
    (placed c.part-in-Then.ensures c.put_formula-in-Then.ensures) c.put_sign.ensures
    (placed c.part-in-Then-2.ensures c.put_formula-in-Then-2.ensures) c.put-in-Then-2.ensures

pub returns-in-ForAll : goal.returns-in-ForAll
returns-in-ForAll t c =
    at_deep c.args.nodes.now c.args.place c.if-place-eq0.false c.in-ForAll.ensures c.if-place-ge4.true c.put_flag-in-ForAll.ensures

pub returns-in-ForAll-2 : goal.returns-in-ForAll-2
returns-in-ForAll-2 t c =
    at_range c.args.nodes.now c.args.place c.if-place-eq0.false c.in-ForAll-2.ensures (omega (arith, c.if-place-ge4.false)) c.put_range.ensures
    (placed c.part-in-ForAll-2.ensures c.put_formula-in-ForAll-2.ensures)

pub returns-in-Flag : goal.returns-in-Flag
returns-in-Flag t c =
    at_flag c.args.nodes.now c.args.place c.if-place-eq0.false c.in-Flag.ensures c.node_word-variable.ensures c.node_word.ensures c.put_flag-in-Flag.ensures
