-- `text_to_body::scope::Scope::write_bound` meets its contract.
use Prim.Native.Nat.{◌+◌}
use mathlib.Core.Path.{◌≡◌, ◌∙◌, ap}
use native.Mathlib.Omega.{arith}
use lib.ListN.{drop, take}
use Rattle.notation.specs.Notation.{End}
use Rattle.notation.specs.Reading.{got}
use Rattle.notation.specs.Bodies.{end_bound}
use Rattle.text_to_body.specs.Work.{in_scope}
use Rattle.text_to_body.proofs.Scopes.{end_base, end_written}
use Rattle.text_to_body.proofs.scope.Scope.write_bound.Goals as goal

pub returns : goal.returns
unfolding end_bound
returns c =
    let a = c.args in
    let s = a.self.now.text.now in
    let mid = c.write_base-ok.new.out in (
      c.put_two.ensures.0 ∙ c.write_base-ok.ensures.0,
      λ E t e. let p = end_base (drop a.at s) E t e in
          let b = c.write_base-ok.ensures.1 p.0 p.2 p.4 in
          let x = c.bound_offset-bits.ensures.1 p.0 p.1 t (e ∙ ap (λ (E : End). got E t) p.3) in
          let z : a.written + 4 ≡ a.written + 2 + 2 = omega arith in (
            rw p.3 b.0,
            rw (p.3, z) (c.put_two.ensures.1 ∙ end_written (in_scope a.self.now) p.0 p.1 (take a.written a.out.now) (take (a.written + 2) mid) c.bound_offset-bits.result x b.1),
          ),
    )
