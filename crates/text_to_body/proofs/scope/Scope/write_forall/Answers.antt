-- `text_to_body::scope::Scope::write_forall` meets its contract.
use mathlib.Core.Path.{sym, ◌∙◌}
use native.Mathlib.Omega.{arith}
use mathlib.Core.List.{◌++◌}
use lib.ListN.{length-set}
use Rattle.std.specs.Prelude.{Some}
use Rattle.notation.specs.Notation.{to_sign, colon_sign}
use Rattle.notation.specs.Reading.{read_end}
use lib.ListN.{drop}
use Prim.Native.Nat.{◌+◌}
use Rattle.notation.specs.Bodies.{end_bytes, forall_bytes}
use Rattle.text_pieces.specs.Spots.{Found}
use Rattle.text_to_body.specs.Work.{in_scope}
use Rattle.text_to_body.proofs.Scopes.{forall_facts, forall_room, first_end, second_room, second_end, take_nine, there}
use Rattle.text_to_body.proofs.scope.Scope.write_forall.Goals as goal

pub overflow_add-after_name : goal.overflow_add-after_name
overflow_add-after_name c =
    let s = c.args.self.now.text.now in
    let x = c.requires.2 in
    let w = forall_room s c.args.at c.run_end-after_name.result c.run_end-after_name.ensures x.0 x.1 x.2 x.3 x.4 in omega (arith, w)

pub unwrap-after_first-requires : goal.unwrap-after_first-requires
unwrap-after_first-requires c =
    let s = c.args.self.now.text.now in
    let x = c.requires.2 in
    there s c.bound_end.result _ x.1 _ c.bound_end.ensures (first_end s c.args.at c.run_end-after_name.result c.run_end-after_name.ensures x.0 x.1 x.2 x.3 x.4)

pub overflow_add-after_name-2 : goal.overflow_add-after_name-2
overflow_add-after_name-2 c =
    let s = c.args.self.now.text.now in
    let x = c.requires.2 in
    let w = forall_room s c.args.at c.run_end-after_name.result c.run_end-after_name.ensures x.0 x.1 x.2 x.3 x.4 in omega (arith, w)

pub write_bound-first-requires : goal.write_bound-first-requires
write_bound-first-requires c =
    let s = c.args.self.now.text.now in
    let x = c.requires.2 in (
      forall_room s c.args.at c.run_end-after_name.result c.run_end-after_name.ensures x.0 x.1 x.2 x.3 x.4,
      omega (arith, c.requires.1, length-set c.args.out.now c.args.written 5),
    )

pub write_bound-second-requires : goal.write_bound-second-requires
write_bound-second-requires c =
    let s = c.args.self.now.text.now in
    let x = c.requires.2 in
    let f : Found s (Some c.unwrap-after_first.result) (read_end (drop (c.run_end-after_name.result + 4) s)) = rw c.unwrap-after_first.ensures at c.bound_end.ensures in (
      second_room s c.args.at c.run_end-after_name.result c.run_end-after_name.ensures x.0 x.1 x.2 x.3 x.4 c.unwrap-after_first.result f,
      omega (arith, c.requires.1, c.write_bound-first.ensures.0, length-set c.args.out.now c.args.written 5),
    )

pub returns-then-first : goal.returns-then-first
unfolding forall_bytes
returns-then-first c =
    let a = c.args in
    let s = a.self.now.text.now in
    let scope = in_scope a.self.now in
    let e = c.run_end-after_name.result in
    let r = c.run_end-after_name.ensures in
    let z : Found s (Some c.unwrap-after_first.result) (read_end (drop (e + 4) s)) = rw c.unwrap-after_first.ensures at c.bound_end.ensures in (
      c.write_bound-second.ensures.0 ∙ c.write_bound-first.ensures.0 ∙ length-set a.out.now a.written 5,
      λ n A B t h. let x = forall_facts s a.at e r n A B t h in
          let f = c.write_bound-first.ensures.1 A (to_sign ++ x.1.1) (first_end s a.at e r n A B t h) in
          let y = second_end s a.at e r n A B t h c.unwrap-after_first.result z in
          let g = c.write_bound-second.ensures.1 B (colon_sign ++ t) y in (
            rw (sym f.0 ∙ c.if-first.true) g.0,
            take_nine a.out.now c.write_bound-first.new.out c.write_bound-second.new.out a.written (end_bytes scope A) (end_bytes scope B)
                (omega (arith, c.requires.1)) f.1 g.1,
          ),
    )

pub returns-else-first : goal.returns-else-first
unfolding forall_bytes
returns-else-first c =
    let a = c.args in
    let s = a.self.now.text.now in
    let scope = in_scope a.self.now in
    let e = c.run_end-after_name.result in
    let r = c.run_end-after_name.ensures in
    let z : Found s (Some c.unwrap-after_first.result) (read_end (drop (e + 4) s)) = rw c.unwrap-after_first.ensures at c.bound_end.ensures in (
      c.write_bound-second.ensures.0 ∙ c.write_bound-first.ensures.0 ∙ length-set a.out.now a.written 5,
      λ n A B t h. let x = forall_facts s a.at e r n A B t h in
          let f = c.write_bound-first.ensures.1 A (to_sign ++ x.1.1) (first_end s a.at e r n A B t h) in
          let y = second_end s a.at e r n A B t h c.unwrap-after_first.result z in
          let g = c.write_bound-second.ensures.1 B (colon_sign ++ t) y in (
            rw (sym f.0 ∙ c.if-first.false) c.if-first.false,
            take_nine a.out.now c.write_bound-first.new.out c.write_bound-second.new.out a.written (end_bytes scope A) (end_bytes scope B)
                (omega (arith, c.requires.1)) f.1 g.1,
          ),
    )
