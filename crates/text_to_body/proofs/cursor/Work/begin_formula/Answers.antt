-- `text_to_body::cursor::Work::begin_formula` meets its contract.
use Prim.Native.Nat.{◌≤◌}
use mathlib.Core.Path.{◌≡◌, refl}
use native.Mathlib.Omega.{arith}
use lib.ListN.{length, length-set, drop}
use Rattle.notation.specs.Reading.{got, negate_token, open_token, read_token}
use Rattle.text_to_body.proofs.Moves.{rooms, wrong_arm, negate_arm, open_arm}
use Rattle.text_to_body.proofs.cursor.Work.begin_formula.Goals as goal

pub returns-in_err-end : goal.returns-in_err-end
returns-in_err-end c =
    let a = c.args in
    let w = a.self.now in
    let pre = c.requires in
    rw c.from_residual.ensures (
    record { same_text = refl; same_room = refl; goes = wrong_arm w.text.now w.frames w.names w.bytes a.cursor pre.1 pre.0 c.in_err-end.ensures }
    )

pub bounds-self-written : goal.bounds-self-written
bounds-self-written c =
    let a = c.args in
    let w = a.self.now in
    let pre = c.requires in
    let q = c.in-Negate.end in
    let x : (q ≤ length w.text.now) × (read_token (drop a.cursor.at w.text.now) ≡ got negate_token (drop q w.text.now)) = rw c.in-Negate.is at c.in_ok-end.ensures in
    (rooms w.text.now w.frames w.names w.bytes a.cursor pre.1 q negate_token x.0 x.1 w.short).0

pub returns-in-Negate : goal.returns-in-Negate
returns-in-Negate c =
    let a = c.args in
    let w = a.self.now in
    let pre = c.requires in
    let q = c.in-Negate.end in
    let x : (q ≤ length w.text.now) × (read_token (drop a.cursor.at w.text.now) ≡ got negate_token (drop q w.text.now)) = rw c.in-Negate.is at c.in_ok-end.ensures in
    let r = rooms w.text.now w.frames w.names w.bytes a.cursor pre.1 q negate_token x.0 x.1 w.short in
    record { same_text = refl; same_room = length-set w.bytes a.cursor.written 2; goes = negate_arm w.text.now w.frames w.names w.bytes a.cursor pre.1 pre.0 q x.0 x.1 (omega (arith, r.0)) }

pub bounds-self-cursor : goal.bounds-self-cursor
bounds-self-cursor c =
    let a = c.args in
    let w = a.self.now in
    let pre = c.requires in
    let q = c.in-Open.end in
    let x : (q ≤ length w.text.now) × (read_token (drop a.cursor.at w.text.now) ≡ got open_token (drop q w.text.now)) = rw c.in-Open.is at c.in_ok-end.ensures in
    (rooms w.text.now w.frames w.names w.bytes a.cursor pre.1 q open_token x.0 x.1 w.short).1

pub bounds-self-written-in-Open : goal.bounds-self-written-in-Open
bounds-self-written-in-Open c =
    let a = c.args in
    let w = a.self.now in
    let pre = c.requires in
    let q = c.in-Open.end in
    let x : (q ≤ length w.text.now) × (read_token (drop a.cursor.at w.text.now) ≡ got open_token (drop q w.text.now)) = rw c.in-Open.is at c.in_ok-end.ensures in
    (rooms w.text.now w.frames w.names w.bytes a.cursor pre.1 q open_token x.0 x.1 w.short).0

pub returns-in-Open : goal.returns-in-Open
returns-in-Open c =
    let a = c.args in
    let w = a.self.now in
    let pre = c.requires in
    let q = c.in-Open.end in
    let x : (q ≤ length w.text.now) × (read_token (drop a.cursor.at w.text.now) ≡ got open_token (drop q w.text.now)) = rw c.in-Open.is at c.in_ok-end.ensures in
    let r = rooms w.text.now w.frames w.names w.bytes a.cursor pre.1 q open_token x.0 x.1 w.short in
    record { same_text = refl; same_room = length-set w.bytes a.cursor.written 0; goes = open_arm w.text.now w.frames w.names w.bytes a.cursor pre.1 pre.0 q x.0 x.1 (omega (arith, r.0)) (omega (arith, r.1)) }
