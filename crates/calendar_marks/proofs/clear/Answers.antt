-- `calendar_marks::clear` meets its contract.
use Rattle.std.proofs.Common.{rules, ◌≡◌, ◌∙◌, ap, ℕ, ◌*◌, ◌/◌, List, ◌++◌, length, replicate, drop}
use Rattle.calendar_marks.proofs.Storing.{cleared_parts}
use Rattle.calendar_marks.proofs.clear.Goals as goal

pub returns : goal.returns
returns c =
    let n = 8 * (length c.args.words.now / 8) in
    let e : c.fill.new.self ≡ replicate n 0 = search rules in
    ap (λ (xs : List ℕ). xs ++ drop n c.args.words.now) e ∙ cleared_parts c.args.words.now
