-- `text_to_body::scope::Scope::write_flag` meets its contract.
use Prim.Native.Nat.{ℕ, ◌-◌, ◌%◌}
use mathlib.Core.Path.{◌≡◌, refl, sym, ap, ◌∙◌}
use native.Mathlib.Omega.{arith}
use lib.ListN.{length-set}
use Rattle.notation.specs.Bodies.{is_bound, variable_byte, flag_bytes, seek}
use Rattle.text_to_body.specs.Work.{in_scope, sought}
use Rattle.text_to_body.proofs.Scopes.{flag_name, flag_inside, flag_digit_there, take_three, sought_bound}
use Rattle.text_to_body.proofs.scope.Scope.write_flag.Goals as goal

pub returns : goal.returns
unfolding is_bound flag_bytes variable_byte
returns c =
    let a = c.args in
    let s = a.self.now.text.now in
    let scope = in_scope a.self.now in
    let e = c.run_end-after_name.result in
    let r = c.run_end-after_name.ensures in (
      c.put_two.ensures.0 ∙ length-set a.out.now a.written 1,
      λ n k t h. let v : sought c.variable-found.result ≡ seek scope n = c.variable-found.ensures ∙ ap (seek scope) (sym (flag_name s a.at e r n k t h)) in
          let x : c.variable_byte.result ≡ (seek scope n - 1) % 256 = c.variable_byte.ensures ∙ ap (λ (j : ℕ). (j - 1) % 256) v in
          let y : c.digit_value-k.result ≡ k - 48 =
          c.digit_value-k.ensures (flag_inside s a.at e r n k t h)
          ∙ ap (λ (j : ℕ). j - 48) (flag_digit_there s a.at e r n k t h) in (
            c.is_some.ensures ∙ sought_bound c.variable-found.result _ v,
            take_three a.out.now c.put_two.new.out a.written c.variable_byte.result c.digit_value-k.result (omega (arith, c.requires.1))
                c.put_two.ensures.1
                ∙ rw (x, y) refl,
          ),
    )
