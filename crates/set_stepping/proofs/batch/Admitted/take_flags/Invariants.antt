-- `set_stepping::batch::Admitted::take_flags` meets its contract.
use mathlib.Core.Path.{◌≡◌}
use mathlib.Core.List.{List}
use lib.ListN.{length}
use Rattle.refusal.specs.Answer.{accepted}
use Rattle.rule.specs.declared.Figures.{Figures}
use Rattle.demand.specs.SetContract.{admit_records}
use Rattle.running.specs.Records.{rules_in}
use Rattle.set_stepping.proofs.ManyFlags.{Under}
use Rattle.set_stepping.proofs.batch.Admitted.take_flags.Given as goal

abbrev pub invariant-loop-taken : goal.invariant-loop-taken
invariant-loop-taken l =
    (length l.records ≡ length l.initial.records)
    × ((figures : List Figures) → admit_records l.self.sheet.now (rules_in l.initial.records) (length l.initial.history) (length l.initial.cells) 8192 ≡ accepted figures
    → Under l.self.sheet.now (rules_in l.initial.records) l.flags l.initial.history l.initial.cells l.initial.report figures (rules_in l.records) l.history l.cells l.report l.taken l.triples l.live)
