-- `text_to_body::cursor::Work::go_on` meets its contract.
use mathlib.Core.Path.{◌∙◌}
use native.Mathlib.Omega.{arith}
use lib.ListN.{take, drop}
use Rattle.text_to_body.specs.Work.{scope_of}
use Rattle.text_to_body.proofs.Texts.{settled}
use Rattle.text_to_body.proofs.cursor.Work.go_on.Goals as goal

pub returns-clause-reached : goal.returns-clause-reached
returns-clause-reached c =
    let l = c.loop-cursor in
    let w = l.self in
    let p = l.cursor in (
      l.invariant.1 ∙ settled p.mode p.opened w.frames (scope_of w.text.now w.names p.scope) (take p.written w.bytes) p.resolved (drop p.at w.text.now) c.in-Whole.is,
      omega (arith, l.invariant.3.bytes_fit, l.invariant.3.place, w.short),
    )
