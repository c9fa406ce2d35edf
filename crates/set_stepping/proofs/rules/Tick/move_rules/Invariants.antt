-- `set_stepping::rules::Tick::move_rules` meets its contract: the invariant is that the first `index` rules have taken the tick.
use mathlib.Core.Path.{◌≡◌}
use lib.ListN.{length}
use Rattle.running.specs.Records.{rules_in}
use Rattle.set_stepping.proofs.AllRules.{SoFar}
use Rattle.set_stepping.proofs.rules.Tick.move_rules.Given as goal

abbrev pub invariant-loop-index : goal.invariant-loop-index
invariant-loop-index l =
    (length l.records ≡ length l.initial.records) × ((length l.cells ≡ length l.initial.cells) × ((length l.report ≡ length l.initial.report)
    × SoFar l.self.sheet.now (rules_in l.initial.records) l.self.history.now l.self.flag l.initial.cells l.initial.report l.index (rules_in l.records) l.cells l.report l.pairs l.live))
