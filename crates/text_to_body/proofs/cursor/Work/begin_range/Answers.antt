-- `text_to_body::cursor::Work::begin_range` meets its contract.
use mathlib.Core.Path.{◌≡◌, refl, ap, ◌∙◌}
use mathlib.Core.Bool.{Bool, false, ◌&&◌}
use mathlib.Core.List.{List, ◌++◌}
use native.Mathlib.Omega.{arith}
use Prim.Native.Nat.{ℕ}
use lib.ListN.{drop, take}
use Rattle.notation.specs.Bodies.{end_bound, forall_bytes}
use Rattle.text_to_body.proofs.Moves.{range_end, range_arm, rooms, scoped}
use Rattle.notation.specs.Reading.{forall_token}
use Rattle.text_to_body.proofs.cursor.Work.begin_range.Goals as goal

pub write_forall-bound-requires : goal.write_forall-bound-requires
write_forall-bound-requires c =
    let a = c.args in
    let w = a.self.now in
    let pre = c.requires in
    let x = pre.2 in
    let e = range_end w.text.now w.frames w.names w.bytes a.cursor pre.1 pre.0 a.end x in (
      omega (arith, e, x.inside),
      omega (arith, e, pre.1.bytes_fit, x.inside, w.short),
      (x.name, x.first, x.second, drop a.end w.text.now, x.named),
    )

pub bounds-self-cursor : goal.bounds-self-cursor
bounds-self-cursor c =
    let a = c.args in
    let w = a.self.now in
    let pre = c.requires in
    let x = pre.2 in
    let e = range_end w.text.now w.frames w.names w.bytes a.cursor pre.1 pre.0 a.end x in omega (arith, e, x.inside, w.short, pre.1.names_fit)

pub bounds-self-cursor-2 : goal.bounds-self-cursor-2
bounds-self-cursor-2 c =
    let a = c.args in
    let w = a.self.now in
    let pre = c.requires in
    let x = pre.2 in
    (rooms w.text.now w.frames w.names w.bytes a.cursor pre.1 a.end (forall_token x.name x.first x.second) x.inside x.is w.short).1

pub returns-then-cursor : goal.returns-then-cursor
returns-then-cursor c =
    let a = c.args in
    let w = a.self.now in
    let pre = c.requires in
    let x = pre.2 in
    let g = c.write_forall-bound.ensures.1 x.name x.first x.second (drop a.end w.text.now) x.named in
    let e = range_end w.text.now w.frames w.names w.bytes a.cursor pre.1 pre.0 a.end x in
    let q = scoped w.text.now w.names a.cursor.scope (omega (arith, pre.1.names_fit, pre.1.place, w.short)) in
    let r = rooms w.text.now w.frames w.names w.bytes a.cursor pre.1 a.end (forall_token x.name x.first x.second) x.inside x.is w.short in
    record {
      same_text = refl;
      same_room = c.write_forall-bound.ensures.0;
      goes = range_arm w.text.now w.frames w.names w.bytes a.cursor pre.1 pre.0 a.end x c.write_forall-bound.new.out c.write_forall-bound.result c.write_forall-bound.result
          (omega (arith, r.1)) (omega (arith, e, x.inside, w.short, pre.1.names_fit))
          (g.0 ∙ ap (λ (n : List (List ℕ)). end_bound n x.first && end_bound n x.second) q)
          (g.1 ∙ ap (λ (n : List (List ℕ)). take a.cursor.written w.bytes ++ forall_bytes n x.first x.second) q)
          (rw c.if-cursor.true refl);
    }

pub returns-else-cursor : goal.returns-else-cursor
returns-else-cursor c =
    let a = c.args in
    let w = a.self.now in
    let pre = c.requires in
    let x = pre.2 in
    let g = c.write_forall-bound.ensures.1 x.name x.first x.second (drop a.end w.text.now) x.named in
    let e = range_end w.text.now w.frames w.names w.bytes a.cursor pre.1 pre.0 a.end x in
    let q = scoped w.text.now w.names a.cursor.scope (omega (arith, pre.1.names_fit, pre.1.place, w.short)) in
    let r = rooms w.text.now w.frames w.names w.bytes a.cursor pre.1 a.end (forall_token x.name x.first x.second) x.inside x.is w.short in
    record {
      same_text = refl;
      same_room = c.write_forall-bound.ensures.0;
      goes = range_arm w.text.now w.frames w.names w.bytes a.cursor pre.1 pre.0 a.end x c.write_forall-bound.new.out c.write_forall-bound.result a.cursor.resolved
          (omega (arith, r.1)) (omega (arith, e, x.inside, w.short, pre.1.names_fit))
          (g.0 ∙ ap (λ (n : List (List ℕ)). end_bound n x.first && end_bound n x.second) q)
          (g.1 ∙ ap (λ (n : List (List ℕ)). take a.cursor.written w.bytes ++ forall_bytes n x.first x.second) q)
          (kept _ _ c.if-cursor.false);
    }
  where
    kept : (p b : Bool) → p ≡ false → p ≡ (p && b)
    kept p b e = rw e refl
