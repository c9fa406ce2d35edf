-- `case_file::split_at_byte` meets its contract: what stands behind the place is the rest of the text.
use Rattle.std.proofs.Common.{◌+◌, ◌-◌, ℕ, length, drop, arith, ap, ◌∙◌}
use Rattle.std.proofs.lemmas.List.{take_all}
use Rattle.std.proofs.Math.ListN.{length-drop}
use Rattle.case_file.proofs.Finding.{found_at}
use Rattle.case_file.proofs.fields.split_at_byte.Goals as goal

pub returns-clause-behind : goal.returns-clause-behind
returns-clause-behind c =
    let text = c.args.text.now in
    let found = found_at c.args.byte text c.place_of.result c.in_ok-at.at c.place_of.ensures c.in_ok-at.was in
    let all = take_all (length text - (c.in_ok-at.at + 1)) (drop (c.in_ok-at.at + 1) text) (omega (arith, length-drop (c.in_ok-at.at + 1) text)) in
    all ∙ ap (λ (k : ℕ). drop (k + 1) text) found.0
