-- `exports_watch::watching::sw_open` meets its contract.
use Rattle.exports_watch.proofs.Kept.{open_accepted}
use Rattle.std.proofs.Common.{rules}
use Rattle.exports_watch.proofs.watching.sw_open.Goals as goal

pub returns-in-Ok : goal.returns-in-Ok
returns-in-Ok c =
    let a = c.args in
    let o = c.open in
    open_accepted a.sheet.now a.rule a.history.now a.cells.now a.state.now o.result o.new.history o.ensures c.in-Ok.opened c.in-Ok.is (search rules) c.store.new.bytes c.store.ensures
