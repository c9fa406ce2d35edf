-- `watch_lines::Line::put_text` meets its contract: the bytes after the text are 0, as they were.
use Rattle.std.proofs.Common.{arith, ◌≡◌, ◌≤◌, ◌+◌, ◌-◌, ℕ, length, drop, replicate, ap, sym, ◌∙◌}
use Rattle.std.proofs.lemmas.List.{drop-replicate, length-take-le}
use Rattle.std.proofs.lemmas.Slice.{drop-put_mid}
use lib.Seq.{drop-drop}
use Rattle.watch_lines.proofs.line.Line.put_text.Goals as goal

pub invariant_of-self : goal.invariant_of-self
invariant_of-self c =
    let e = c.self.inside.end in
    let bytes = c.self.inside.bytes in
    let n = length c.args.text.now in
    let written = c.copy_from_slice.new.self in
    let within : e ≤ 128 = c.self.invariant.0 in
    let zeros : drop e bytes ≡ replicate (128 - e) 0 = c.self.invariant.1 in
    let front : length c.args.self.now ≡ e = ap length (sym c.self.view_is) ∙ length-take-le e bytes (omega (arith, c.self.told)) in
    let fits : e + n ≤ 128 = omega (arith, c.requires, front) in
    let same : drop (e + n) bytes ≡ replicate ((128 - e) - n) 0 = sym (drop-drop n e bytes) ∙ ap (drop n) zeros ∙ drop-replicate n (128 - e) 0 in
    let left : (128 - e) - n ≡ 128 - (e + n) = omega arith in
    (fits, drop-put_mid e ((e + n) - e) bytes written (e + n) (omega arith) (omega (arith, c.self.told)) (omega (arith, ap length c.copy_from_slice.ensures.after)) ∙ same ∙ ap (λ (k : ℕ). replicate k 0) left)
