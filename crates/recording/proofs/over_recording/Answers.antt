-- `recording::over_recording` meets its contract.
use Rattle.std.proofs.Common.{◌-◌, length, arith}
use mathlib.Core.Logic.{inl, inr}
use Rattle.nodes.specs.Table.{formula_in}
use Rattle.recording.proofs.Entry.{too_long, no_tick, in_recording, by_rule}
use Rattle.recording.proofs.over_recording.Goals as goal

pub returns-then-recording-gt65535 : goal.returns-then-recording-gt65535
returns-then-recording-gt65535 c = elim c.then-recording-gt65535.either [
  | inl long ↦ too_long (formula_in 64 c.args.nodes.now 0 0) c.args.recording.now c.args.tick long
  | inr outside ↦ no_tick (formula_in 64 c.args.nodes.now 0 0) c.args.recording.now c.args.tick outside.1
]

pub returns : goal.returns
returns c =
    in_recording (formula_in 64 c.args.nodes.now 0 0) c.args.recording.now c.args.tick (omega arith) (omega arith)
    (by_rule c.args.nodes.now c.args.recording.now (length c.args.recording.now - 1) c.args.tick c.at_tick.result c.at_tick.ensures c.evaluate.ensures)
