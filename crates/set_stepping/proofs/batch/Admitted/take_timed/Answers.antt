-- `set_stepping::batch::Admitted::take_timed` meets its contract.
use Rattle.running.specs.Records.{rules_in}
use Rattle.set_stepping.proofs.Timed.{timed_room, timed_moved}
use Rattle.set_stepping.proofs.batch.Admitted.take_timed.Goals as goal

pub time_pairs-requires : goal.time_pairs-requires
time_pairs-requires c =
    let a = c.args in
    let m = c.take_flag-moved in
    timed_room a.self.now.sheet.now (rules_in a.records.now) a.history.now a.flag a.cells.now a.report.now a.self.now.most c.requires m.result.reported m.result.live (rules_in m.new.records) m.new.history m.new.cells m.new.report m.ensures m.auto.report

pub returns : goal.returns
returns c =
    let a = c.args in
    let m = c.take_flag-moved in
    let lead = c.rule_at-lead in
    timed_moved a.self.now.sheet.now (rules_in a.records.now) a.history.now a.flag a.cells.now a.report.now a.self.now.most c.requires m.result.reported m.result.live (rules_in m.new.records) m.new.history m.new.cells m.new.report m.ensures m.auto.report lead.result lead.ensures c.time_pairs.new.report c.time_pairs.ensures
