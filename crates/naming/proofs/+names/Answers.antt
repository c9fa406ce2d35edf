-- `naming::names` meets its contract: the test is the definition's, for any table. The formulas left fall from call to call.
use Rattle.std.proofs.Common.{true≢false, sym, ◌∙◌, ◌-◌, arith}
use Rattle.naming.proofs.Nodes.{none_in, negate_in, range_in}
use Rattle.naming.proofs.Named.{named_none, named_negate, two_parts, named_two, named_here, named_range, named_rest, named_deep}
use Rattle.naming.proofs.+names.Goals as goal
use Rattle.naming.proofs.+names.Goals.{then-bound_names, else-bound_names}

pub returns-then-left-eq0 : goal.returns-then-left-eq0
returns-then-left-eq0 t c =
    named_none c.args.variable (none_in c.args.left c.args.nodes.now c.args.depth c.args.node c.if-left-eq0.true)

pub returns-in-Not : goal.returns-in-Not
returns-in-Not t c =
    named_negate c.args.variable (negate_in c.args.left c.args.nodes.now c.args.depth c.args.node c.if-left-eq0.false c.in-Not.ensures) c.names.ensures

pub returns-in-ForAll : goal.returns-in-ForAll
returns-in-ForAll t c =
    named_deep (c.args.left - 1) c.args.nodes.now c.args.depth c.args.node c.args.variable (range_in c.args.left c.args.nodes.now c.args.depth c.args.node c.if-left-eq0.false c.in-ForAll.ensures) c.if-depth-ge-NESTED.true

pub returns-then-bound_names-2 : goal.returns-then-bound_names-2
returns-then-bound_names-2 t c =
    let e = range_in c.args.left c.args.nodes.now c.args.depth c.args.node c.if-left-eq0.false c.in-ForAll.ensures in
    elim c.if-bound_names.branch [
      | then-bound_names w ↦
          c.if-bound_names-2.true ∙ (named_range (c.args.left - 1) c.args.nodes.now c.args.depth c.args.node c.args.variable e (omega arith)).0 (sym c.bound_names.ensures ∙ w.if-bound_names.true)
      | else-bound_names w ↦
          c.if-bound_names-2.true
          ∙ (named_rest (c.args.left - 1) c.args.nodes.now c.args.depth c.args.node c.args.variable e).0 (sym w.bound_names-else-bound_names.ensures ∙ sym w.value-is ∙ c.if-bound_names-2.true)
          ∙ (named_range (c.args.left - 1) c.args.nodes.now c.args.depth c.args.node c.args.variable e (omega arith)).1 (sym c.bound_names.ensures ∙ w.if-bound_names.false)
    ]

pub returns-else-bound_names-2 : goal.returns-else-bound_names-2
returns-else-bound_names-2 t c =
    let e = range_in c.args.left c.args.nodes.now c.args.depth c.args.node c.if-left-eq0.false c.in-ForAll.ensures in
    elim c.if-bound_names.branch [
      | then-bound_names w ↦ absurd (true≢false (sym w.if-bound_names.true ∙ sym w.value-is ∙ c.if-bound_names-2.false))
      | else-bound_names w ↦
          c.names-else-bound_names-2.ensures
          ∙ (named_rest (c.args.left - 1) c.args.nodes.now c.args.depth c.args.node c.args.variable e).1 (sym w.bound_names-else-bound_names.ensures ∙ sym w.value-is ∙ c.if-bound_names-2.false)
          ∙ (named_range (c.args.left - 1) c.args.nodes.now c.args.depth c.args.node c.args.variable e (omega arith)).1 (sym c.bound_names.ensures ∙ w.if-bound_names.false)
    ]

pub returns-then-names : goal.returns-then-names
returns-then-names t c =
    c.if-names.true
    ∙ (named_two c.args.left c.args.nodes.now c.args.depth c.args.node c.if-left-eq0.false c.args.variable c.node_word-second.result (two_parts c.code_at.ensures c.in-Then.is) c.node_word-second.ensures).0
    (sym c.names-in-Then.ensures ∙ c.if-names.true)

pub returns-else-names : goal.returns-else-names
returns-else-names t c =
    c.names-else-names.ensures
    ∙ (named_two c.args.left c.args.nodes.now c.args.depth c.args.node c.if-left-eq0.false c.args.variable c.node_word-second.result (two_parts c.code_at.ensures c.in-Then.is) c.node_word-second.ensures).1
    (sym c.names-in-Then.ensures ∙ c.if-names.false)

pub returns-in-Flag : goal.returns-in-Flag
returns-in-Flag t c =
    named_here c.args.left c.args.nodes.now c.args.depth c.args.node c.if-left-eq0.false c.args.variable c.in-Flag.ensures c.node_word.ensures
