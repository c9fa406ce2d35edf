-- `reader::read_body` meets its contract.
use Rattle.reader.proofs.Bodies.{body_refused, body_whole, body_longer}
use Rattle.reader.proofs.read_body.Goals as goal

pub returns-in-Ok : goal.returns-in-Ok
returns-in-Ok c = body_whole _ _ _ _ c.read_formula.ensures _ _ c.in-Ok.is c.if-end-body.true

pub returns-in-Ok-2 : goal.returns-in-Ok-2
returns-in-Ok-2 c = body_longer _ _ _ _ c.read_formula.ensures _ _ c.in-Ok.is _ c.if-end-body.false c.clear.ensures

pub returns-in-Err : goal.returns-in-Err
returns-in-Err c = body_refused _ _ _ _ c.read_formula.ensures _ _ c.in-Err.is c.clear-in-Err.ensures
