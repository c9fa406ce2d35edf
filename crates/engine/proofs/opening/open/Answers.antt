-- `engine::opening::open` meets its contract.
use Prim.Native.Nat.{◌+◌, ◌-◌}
use native.Mathlib.Omega.{arith}
use lib.ListN.{take, drop}
use Rattle.refusal.proofs.Answers.{handed_on}
use Rattle.engine.proofs.Opens.{part_inside, part_is, part_size, open_refused, open_body_keeps}
use Rattle.engine.proofs.opening.open.Goals as goal

pub returns-in_err-place : goal.returns-in_err-place
returns-in_err-place c =
    rw (handed_on c.from_residual.result c.in_err-place.field-0.0 c.from_residual.ensures)
    (open_refused c.args.sheet.now c.args.rule c.find_rule.result c.find_rule.ensures c.args.history.now c.args.cells.now c.in_err-place.was)

pub overflow_add-place : goal.overflow_add-place
overflow_add-place c =
    let inside = part_inside c.args.sheet.now c.args.rule c.find_rule.result c.find_rule.ensures c.in_ok-place.place c.in_ok-place.was in
    omega arith

pub slice_bounds-open_body-end : goal.slice_bounds-open_body-end
slice_bounds-open_body-end c = part_inside c.args.sheet.now c.args.rule c.find_rule.result c.find_rule.ensures c.in_ok-place.place c.in_ok-place.was

pub open_body-requires : goal.open_body-requires
open_body-requires c = part_size c.args.sheet.now c.args.rule c.find_rule.result c.find_rule.ensures c.in_ok-place.place c.in_ok-place.was

pub returns : goal.returns
returns c =
    let f = c.find_rule in
    let place = c.in_ok-place.place in
    open_body_keeps c.args.sheet.now c.args.rule f.result f.ensures c.args.history.now c.args.cells.now (take (place.start + place.size - place.start) (drop place.start c.args.sheet.now)) c.open_body.result c.open_body.new.history
    (part_is c.args.sheet.now c.args.rule f.result f.ensures place c.in_ok-place.was) (part_size c.args.sheet.now c.args.rule f.result f.ensures place c.in_ok-place.was) c.open_body.ensures
