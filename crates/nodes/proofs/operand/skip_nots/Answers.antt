-- `nodes::operand::skip_nots` meets its contract: what is left to skip is skipped to the same formula.
use mathlib.Core.Path.{sym, ◌∙◌}
use native.Mathlib.Omega.{arith}
use Rattle.nodes.proofs.Nots.{one_passed, run_over, none_left}
use Rattle.nodes.proofs.operand.skip_nots.Goals as goal

pub loop-under-preserved : goal.loop-under-preserved
loop-under-preserved c =
    let u = c.loop-under.under in
    c.loop-under.invariant ∙ one_passed c.args.nodes.now u.left u.node u.odd (omega arith) (sym c.node_word.ensures ∙ c.if-node_word-ne-NOT_CODE.false)

pub returns-then-node_word-ne-NOT_CODE : goal.returns-then-node_word-ne-NOT_CODE
returns-then-node_word-ne-NOT_CODE c =
    sym (c.loop-under.invariant ∙ run_over c.args.nodes.now c.loop-under.under (λ e. c.if-node_word-ne-NOT_CODE.true (c.node_word.ensures ∙ e)))

pub returns : goal.returns
returns c = sym (c.loop-under.invariant ∙ none_left c.args.nodes.now c.loop-under.under (omega arith))
