-- `text_to_body::scope::Scope::same_name` meets its contract.
use mathlib.Core.Path.{ap, ◌∙◌}
use native.Mathlib.Omega.{arith}
use lib.ListN.{drop}
use Rattle.notation.specs.Notation.{letter, same}
use Rattle.notation.specs.Reading.{run}
use Rattle.text_pieces.proofs.Scanning.{run_fits}
use Rattle.text_to_body.proofs.Scopes.{run_part}
use Rattle.text_to_body.proofs.scope.Scope.same_name.Goals as goal

pub slice_bounds-is_word-end : goal.slice_bounds-is_word-end
slice_bounds-is_word-end c = let a = c.args in omega (arith, c.run_end-end.ensures, c.requires, run_fits letter a.self.now.text.now a.second)

pub returns : goal.returns
returns c =
    let a = c.args in
    let s = a.self.now.text.now in
    c.is_word.ensures ∙ ap (same (run letter (drop a.first s))) (run_part letter s a.second c.run_end-end.result c.run_end-end.ensures)
