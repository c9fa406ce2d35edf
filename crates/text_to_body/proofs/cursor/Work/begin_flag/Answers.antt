-- `text_to_body::cursor::Work::begin_flag` meets its contract.
use mathlib.Core.Path.{◌≡◌, refl, ap, ◌∙◌}
use mathlib.Core.Bool.{Bool, false, ◌&&◌}
use mathlib.Core.List.{List, ◌++◌}
use native.Mathlib.Omega.{arith}
use Prim.Native.Nat.{ℕ}
use lib.ListN.{drop, take}
use Rattle.notation.specs.Bodies.{is_bound, flag_bytes}
use Rattle.text_to_body.proofs.Moves.{flag_end, flag_arm, scoped}
use Rattle.text_to_body.proofs.cursor.Work.begin_flag.Goals as goal

pub write_flag-bound-requires : goal.write_flag-bound-requires
write_flag-bound-requires c =
    let a = c.args in
    let w = a.self.now in
    let pre = c.requires in
    let e = flag_end w.text.now w.frames w.names w.bytes a.cursor pre.1 pre.0 a.end pre.2 in
    (omega (arith, e, pre.2.inside), omega (arith, e, pre.1.bytes_fit, pre.2.inside, w.short))

pub returns-then-cursor : goal.returns-then-cursor
returns-then-cursor c =
    let a = c.args in
    let w = a.self.now in
    let pre = c.requires in
    let x = pre.2 in
    let g = c.write_flag-bound.ensures.1 x.name x.digit (drop a.end w.text.now) x.named in
    let q = scoped w.text.now w.names a.cursor.scope (omega (arith, pre.1.names_fit, pre.1.place, w.short)) in
    record {
      same_text = refl;
      same_room = c.write_flag-bound.ensures.0;
      goes = flag_arm w.text.now w.frames w.names w.bytes a.cursor pre.1 pre.0 a.end x c.write_flag-bound.new.out c.write_flag-bound.result c.write_flag-bound.result
          (g.0 ∙ ap (λ (n : List (List ℕ)). is_bound n x.name) q)
          (g.1 ∙ ap (λ (n : List (List ℕ)). take a.cursor.written w.bytes ++ flag_bytes n x.name x.digit) q)
          (rw c.if-cursor.true refl);
    }

pub returns-else-cursor : goal.returns-else-cursor
returns-else-cursor c =
    let a = c.args in
    let w = a.self.now in
    let pre = c.requires in
    let x = pre.2 in
    let g = c.write_flag-bound.ensures.1 x.name x.digit (drop a.end w.text.now) x.named in
    let q = scoped w.text.now w.names a.cursor.scope (omega (arith, pre.1.names_fit, pre.1.place, w.short)) in
    record {
      same_text = refl;
      same_room = c.write_flag-bound.ensures.0;
      goes = flag_arm w.text.now w.frames w.names w.bytes a.cursor pre.1 pre.0 a.end x c.write_flag-bound.new.out c.write_flag-bound.result a.cursor.resolved
          (g.0 ∙ ap (λ (n : List (List ℕ)). is_bound n x.name) q)
          (g.1 ∙ ap (λ (n : List (List ℕ)). take a.cursor.written w.bytes ++ flag_bytes n x.name x.digit) q)
          (kept _ _ c.if-cursor.false);
    }
  where
    kept : (p b : Bool) → p ≡ false → p ≡ (p && b)
    kept p b e = rw e refl
