-- `text_to_body::scope::Scope::variable` meets its contract.
use mathlib.Core.Path.{sym, ◌∙◌}
use native.Mathlib.Omega.{arith}
use lib.ListN.{drop}
use Rattle.notation.specs.Notation.{letter}
use Rattle.notation.specs.Reading.{run}
use Rattle.text_to_body.proofs.Scopes.{seek_hit, seek_miss, seek_none}
use Rattle.text_to_body.proofs.scope.Scope.variable.Goals as goal
use Prim.Native.Nat.{suc, ◌-◌}
use mathlib.Core.Path.{◌≡◌}

pub returns-then-same_name : goal.returns-then-same_name
returns-then-same_name c =
    let s = c.args.self.now in
    let l = c.loop-variable in
    let e : suc (l.variable - 1) ≡ l.variable = omega arith in
    e ∙ sym (l.invariant.1 ∙ seek_hit s.text.now s.names.now (run letter (drop c.args.at s.text.now)) l.variable (omega arith) (sym c.same_name.ensures ∙ c.if-same_name.true))

pub loop-variable-preserved : goal.loop-variable-preserved
loop-variable-preserved c =
    let s = c.args.self.now in
    let l = c.loop-variable in
    let t = sym c.same_name.ensures ∙ c.if-same_name.false in
    (omega (arith, l.invariant.0), l.invariant.1 ∙ seek_miss s.text.now s.names.now (run letter (drop c.args.at s.text.now)) l.variable (omega arith) t)

pub returns : goal.returns
returns c =
    let s = c.args.self.now in
    sym (c.loop-variable.invariant.1 ∙ seek_none s.text.now s.names.now (run letter (drop c.args.at s.text.now)) c.loop-variable.variable (omega arith))
