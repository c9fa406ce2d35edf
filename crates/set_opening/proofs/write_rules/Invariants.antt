-- `set_opening::write_rules` meets its contract.
use mathlib.Core.Path.{◌≡◌}
use mathlib.Core.List.{List}
use lib.ListN.{length}
use Rattle.refusal.specs.Answer.{accepted}
use Rattle.rule.specs.declared.Figures.{Figures}
use Rattle.demand.specs.SetContract.{set_figures}
use Rattle.running.specs.Records.{rules_in}
use Rattle.set_opening.proofs.Writes.{Written}
use Rattle.set_opening.proofs.write_rules.Given as goal

abbrev pub invariant-loop-index : goal.invariant-loop-index
invariant-loop-index l =
    (length l.records ≡ length l.initial.records)
    × ((figures : List Figures) → set_figures l.sheet ≡ accepted figures → Written l.sheet l.opened (rules_in l.initial.records) (rules_in l.records) l.first l.index figures)
