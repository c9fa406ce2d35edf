-- `reader::read_formula` meets its contract: each arm is one law of proofs/Fills.antt.
use Rattle.std.proofs.Common.{arith, ◌≢◌, ℕ, List, ◌+◌, ◌<◌, ap, subst, ◌∙◌}
use Rattle.words.specs.Words.{byte}
use lib.ListN.{set}
use Rattle.refusal.proofs.Answers.{handed_on}
use Rattle.reader.specs.Written.{node_start}
use Rattle.reader.specs.Filled.{Filled}
use Rattle.reader.proofs.Ends.{head_left, head_two}
use Rattle.reader.proofs.Fills.{refused_fill, flag_fill, negate_fill, forall_fill, first_fill, second_left, second_fill}
use Rattle.reader.proofs.+read_formula.Goals as goal

pub returns-in_err-head_check : goal.returns-in_err-head_check
returns-in_err-head_check t c =
    let a = c.args in
    let refusal = c.in_err-head_check.field-0.0 in
    rw (handed_on c.from_residual.result refusal c.from_residual.ensures)
    (refused_fill a.body.now a.start.at a.depth a.start.left a.nodes.now refusal c.in_err-head_check.ensures)

pub returns-in-1 : goal.returns-in-1
returns-in-1 t c =
    let a = c.args in
    rw c.past.ensures
    (flag_fill a.body.now a.start.at a.depth a.start.left c.requires.0 c.in_ok-head_check.ensures a.nodes.now c.write_head.new.nodes c.node_place-node.ensures c.write_head.ensures c.in-1.is)

pub returns-in-2 : goal.returns-in-2
returns-in-2 t c =
    let a = c.args in
    negate_fill a.body.now a.start.at a.depth a.start.left c.requires.0 c.in_ok-head_check.ensures a.nodes.now c.write_head.new.nodes c.node_place-node.ensures c.write_head.ensures c.in-2.is
    c.read_formula.result c.read_formula.new.nodes (rw c.past-in-2.ensures at c.read_formula.ensures)

pub returns-in-5 : goal.returns-in-5
returns-in-5 t c =
    let a = c.args in
    forall_fill a.body.now a.start.at a.depth a.start.left c.requires.0 c.in_ok-head_check.ensures a.nodes.now c.write_head.new.nodes c.node_place-node.ensures c.write_head.ensures c.in-5.is
    c.read_formula-in-5.result c.read_formula-in-5.new.nodes (rw c.past-in-5.ensures at c.read_formula-in-5.ensures)

pub returns-in_err-second-in_default : goal.returns-in_err-second-in_default
returns-in_err-second-in_default t c =
    let a = c.args in
    let refusal = c.in_err-second-in_default.field-0.0 in
    let none : byte a.body.now a.start.at ≢ 1 × byte a.body.now a.start.at ≢ 2 × byte a.body.now a.start.at ≢ 5 = (λ e. omega (arith, e), λ e. omega (arith, e), λ e. omega (arith, e)) in
    let two = head_two a.body.now a.start.at a.depth a.start.left c.in_ok-head_check.ensures none.0 none.1 none.2 in
    let f = rw c.past-in_default.ensures at c.read_formula-in_default.ensures in
    rw (handed_on c.from_residual-in_err-second-in_default.result refusal c.from_residual-in_err-second-in_default.ensures)
    (first_fill a.body.now a.start.at a.depth a.start.left c.requires.0 c.in_ok-head_check.ensures a.nodes.now c.write_head.new.nodes c.node_place-node.ensures c.write_head.ensures two.0 two.1
    c.read_formula-in_default.result c.read_formula-in_default.new.nodes f refusal c.in_err-second-in_default.was)

pub write_second-requires : goal.write_second-requires
write_second-requires t c =
    let a = c.args in
    let second = c.in_ok-second-in_default.second in
    let none : byte a.body.now a.start.at ≢ 1 × byte a.body.now a.start.at ≢ 2 × byte a.body.now a.start.at ≢ 5 = (λ e. omega (arith, e), λ e. omega (arith, e), λ e. omega (arith, e)) in
    let two = head_two a.body.now a.start.at a.depth a.start.left c.in_ok-head_check.ensures none.0 none.1 none.2 in
    let f = rw c.past-in_default.ensures at c.read_formula-in_default.ensures in
    let less : second.left < a.start.left = second_left a.body.now a.start.at a.depth a.start.left c.requires.0 c.in_ok-head_check.ensures a.nodes.now c.write_head.new.nodes c.node_place-node.ensures c.write_head.ensures two.0 two.1
    c.read_formula-in_default.result c.read_formula-in_default.new.nodes f second.at second.left c.in_ok-second-in_default.was in
    (omega arith, omega (arith, head_left a.body.now a.start.at a.depth a.start.left c.in_ok-head_check.ensures))

pub read_formula-requires-in_default-2 : goal.read_formula-requires-in_default-2
read_formula-requires-in_default-2 t c =
    let a = c.args in
    let second = c.in_ok-second-in_default.second in
    let none : byte a.body.now a.start.at ≢ 1 × byte a.body.now a.start.at ≢ 2 × byte a.body.now a.start.at ≢ 5 = (λ e. omega (arith, e), λ e. omega (arith, e), λ e. omega (arith, e)) in
    let two = head_two a.body.now a.start.at a.depth a.start.left c.in_ok-head_check.ensures none.0 none.1 none.2 in
    let f = rw c.past-in_default.ensures at c.read_formula-in_default.ensures in
    let less : second.left < a.start.left = second_left a.body.now a.start.at a.depth a.start.left c.requires.0 c.in_ok-head_check.ensures a.nodes.now c.write_head.new.nodes c.node_place-node.ensures c.write_head.ensures two.0 two.1
    c.read_formula-in_default.result c.read_formula-in_default.new.nodes f second.at second.left c.in_ok-second-in_default.was in
    (omega arith, (omega arith, omega arith))

pub returns-in_ok-second-in_default : goal.returns-in_ok-second-in_default
returns-in_ok-second-in_default t c =
    let a = c.args in
    let second = c.in_ok-second-in_default.second in
    let none : byte a.body.now a.start.at ≢ 1 × byte a.body.now a.start.at ≢ 2 × byte a.body.now a.start.at ≢ 5 = (λ e. omega (arith, e), λ e. omega (arith, e), λ e. omega (arith, e)) in
    let two = head_two a.body.now a.start.at a.depth a.start.left c.in_ok-head_check.ensures none.0 none.1 none.2 in
    let f = rw c.past-in_default.ensures at c.read_formula-in_default.ensures in
    second_fill a.body.now a.start.at a.depth a.start.left c.requires.0 c.in_ok-head_check.ensures a.nodes.now c.write_head.new.nodes c.node_place-node.ensures c.write_head.ensures two.0 two.1
    c.read_formula-in_default.result c.read_formula-in_default.new.nodes f second.at second.left c.in_ok-second-in_default.was (omega (arith, head_left a.body.now a.start.at a.depth a.start.left c.in_ok-head_check.ensures))
    c.read_formula-in_default-2.result c.read_formula-in_default-2.new.nodes
    (subst (λ (z : List ℕ). Filled a.body.now second.at a.depth second.left z c.read_formula-in_default-2.result c.read_formula-in_default-2.new.nodes)
    (c.write_second.ensures ∙ ap (λ (i : ℕ). set c.read_formula-in_default.new.nodes (i + 7) (node_start second.left)) c.node_place-node.ensures) c.read_formula-in_default-2.ensures)
