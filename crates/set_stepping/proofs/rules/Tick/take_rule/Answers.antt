-- `set_stepping::rules::Tick::take_rule` meets its contract.
use Prim.Native.Nat.{ℕ, ◌+◌, ◌*◌, ◌-◌}
use mathlib.Core.Path.{◌≡◌, ap}
use mathlib.Core.List.{◌++◌}
use native.Mathlib.Omega.{arith}
use lib.ListN.{take, drop}
use Rattle.set_stepping.proofs.OneRule.{rule_room, rule_moved}
use Rattle.set_stepping.proofs.rules.Tick.take_rule.Goals as goal

pub number_ticks-requires : goal.number_ticks-requires
number_ticks-requires c =
    let a = c.args in
    let tick = c.take_tick in
    let rule = a.rule in
    let size : rule.start + rule.size - rule.start ≡ rule.size = omega arith in
    let room : 4 * rule.first + 4 * rule.cells - 4 * rule.first ≡ 4 * rule.cells = omega arith in
    rw c.from-ticks.ensures
    (rule_room a.self.now.sheet.now rule a.self.now.history.now a.self.now.flag a.cells.now a.report.now c.requires
    tick.result (take (rule.start + rule.size - rule.start) (drop rule.start a.self.now.sheet.now))
    (take (4 * rule.first + 4 * rule.cells - 4 * rule.first) (drop (4 * rule.first) a.cells.now))
    tick.new.cells tick.new.report
    (ap (λ (n : ℕ). take n (drop rule.start a.self.now.sheet.now)) size) (ap (λ (n : ℕ). take n (drop (4 * rule.first) a.cells.now)) room)
    tick.auto.cells (rw c.from-ticks.ensures at tick.ensures) _ _ c.unwrap_or-moved.ensures)

pub returns : goal.returns
returns c =
    let a = c.args in
    let tick = c.take_tick in
    let rule = a.rule in
    let size : rule.start + rule.size - rule.start ≡ rule.size = omega arith in
    let room : 4 * rule.first + 4 * rule.cells - 4 * rule.first ≡ 4 * rule.cells = omega arith in
    rule_moved a.self.now.sheet.now rule a.self.now.history.now a.self.now.flag a.cells.now a.report.now c.requires
    tick.result (take (rule.start + rule.size - rule.start) (drop rule.start a.self.now.sheet.now))
    (take (4 * rule.first + 4 * rule.cells - 4 * rule.first) (drop (4 * rule.first) a.cells.now))
    tick.new.cells tick.new.report
    (ap (λ (n : ℕ). take n (drop rule.start a.self.now.sheet.now)) size) (ap (λ (n : ℕ). take n (drop (4 * rule.first) a.cells.now)) room)
    tick.auto.cells (rw c.from-ticks.ensures at tick.ensures) _ _ c.unwrap_or-moved.ensures a.index _ c.number_ticks.new.report
    (ap (λ (n : ℕ). take (4 * rule.first) a.cells.now ++ (tick.new.cells ++ drop n (drop (4 * rule.first) a.cells.now))) room)
    (rw c.from-ticks.ensures at c.number_ticks.ensures)
