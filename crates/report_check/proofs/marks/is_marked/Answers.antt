-- `report_check::marks::is_marked` meets its contract.
use Prim.Native.Nat.{ℕ, ◌/◌, ◌%◌, ◌^◌}
use mathlib.Core.Path.{◌≡◌, ap, ◌∙◌}
use borrow.Author.Rules.{rules}
use lib.Bits.{and_mask}
use lib.Dec.{eqb}
use lib.ListN.{get_or}
use Rattle.rule.specs.Meaning.{up}
use Rattle.report_check.specs.Marks.{is_marked}
use Rattle.report_check.proofs.marks.is_marked.Goals as goal

pub returns : goal.returns
unfolding is_marked up
returns c =
    let tick = c.args.tick in
    let word : c.unwrap_or-word.result ≡ get_or c.args.marks.now (c.args.tick / 64) 0 = search rules in
    ap (λ (x : ℕ). eqb x 1) (and_mask (c.unwrap_or-word.result / 2 ^ (tick % 64)) 1) ∙ ap (up (tick % 64)) word
