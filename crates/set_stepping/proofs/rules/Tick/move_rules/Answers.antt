-- `set_stepping::rules::Tick::move_rules` meets its contract: the invariant is that the first `index` rules have taken the tick.
use Prim.Native.Nat.{ℕ, ◌*◌, ◌-◌, ◌≤◌, ◌<◌}
use mathlib.Core.Path.{◌≡◌, ap, ◌∙◌}
use mathlib.Core.List.{List, [], ◌++◌, append-nil}
use native.Mathlib.Omega.{arith}
use native.Mathlib.Numerals.{add-one}
use lib.ListN.{length, take, drop, set, length-drop, drop_of_length-le}
use lib.Seq.{take_all}
use Rattle.sheet.specs.Sheet.{rule_count}
use Rattle.demand.specs.SetContract.{next_rule}
use Rattle.running.specs.Records.{rules_in}
use Rattle.set_stepping.proofs.AllRules.{report_inside, pairs_few, live_few, rule_fits, next_fits, sums_few, next_so_far, all_taken}
use Rattle.set_stepping.proofs.rules.Tick.move_rules.Goals as goal
use Rattle.set_stepping.proofs.rules.Tick.move_rules.Goals.{After-rule_at-rule}

-- The rule of this turn is one of the sheet.
more_left : (c : After-rule_at-rule) → c.loop-index.index < rule_count c.args.self.now.sheet.now
more_left c = omega (arith, c.byte_after-index-end.ensures.0, c.loop-index-test.true)

-- What the pairs so far leave of the report.
room_left : (c : After-rule_at-rule) → (2 * c.loop-index.pairs ≤ length c.loop-index.report) × (c.loop-index.pairs ≤ 4096)
room_left c =
    let a = c.args in
    let l = c.loop-index in
    let u = l.invariant.1.1.1 c.requires.figures c.requires.admitted in (
      report_inside a.self.now.sheet.now (rules_in a.records.now) a.self.now.history.now a.self.now.flag a.cells.now a.report.now c.requires.figures c.requires.admitted l.index l.pairs l.live (rules_in l.records) l.cells l.report u (more_left c)
          c.rule_at-rule.result c.rule_at-rule.ensures,
      pairs_few a.self.now.sheet.now (rules_in a.records.now) a.self.now.history.now a.self.now.flag a.cells.now a.report.now c.requires.figures c.requires.admitted l.index l.pairs l.live (rules_in l.records) l.cells l.report u (more_left c)
          c.rule_at-rule.result c.rule_at-rule.ensures,
    )

pub overflow_mul-at : goal.overflow_mul-at
overflow_mul-at c = omega (arith, (room_left (goal.at.overflow_mul-at c).After-rule_at-rule).1)

pub offset_bounds-report-at : goal.offset_bounds-report-at
offset_bounds-report-at c = let w = room_left (goal.at.offset_bounds-report-at c).After-rule_at-rule in omega (arith, w.0, w.1)

pub slice_bounds-take_rule-count : goal.slice_bounds-take_rule-count
slice_bounds-take_rule-count c = let w = room_left (goal.at.slice_bounds-take_rule-count c).After-rule_at-rule in omega (arith, w.0, w.1)

pub slice_bounds-take_rule-start : goal.slice_bounds-take_rule-start
slice_bounds-take_rule-start c = let w = room_left (goal.at.slice_bounds-take_rule-start c).After-rule_at-rule in omega (arith, w.0, w.1)

pub take_rule-moved-requires : goal.take_rule-moved-requires
take_rule-moved-requires c =
    let a = c.args in
    let l = c.loop-index in
    let u = l.invariant.1.1.1 c.requires.figures c.requires.admitted in
    let count : c.byte_after-index-end.result ≡ rule_count a.self.now.sheet.now = c.byte_after-index-end.ensures.0 in
    let more : l.index < rule_count a.self.now.sheet.now = omega (arith, count, c.loop-index-test.true) in
    rule_fits a.self.now.sheet.now (rules_in a.records.now) a.self.now.history.now a.self.now.flag a.cells.now a.report.now c.requires.figures c.requires.admitted l.index l.pairs l.live (rules_in l.records) l.cells l.report u more
    c.rule_at-rule.result c.rule_at-rule.ensures (length (take (length l.report - 2 * l.pairs) (drop (2 * l.pairs) l.report)))
    (ap length (take_all (length l.report - 2 * l.pairs) (drop (2 * l.pairs) l.report) (omega (arith, length-drop (2 * l.pairs) l.report))) ∙ length-drop (2 * l.pairs) l.report)

pub next_rule-requires : goal.next_rule-requires
next_rule-requires c =
    let a = c.args in
    let l = c.loop-index in
    let u = l.invariant.1.1.1 c.requires.figures c.requires.admitted in
    let count : c.byte_after-index-end.result ≡ rule_count a.self.now.sheet.now = c.byte_after-index-end.ensures.0 in
    let more : l.index < rule_count a.self.now.sheet.now = omega (arith, count, c.loop-index-test.true) in
    let m = c.take_rule-moved in
    next_fits a.self.now.sheet.now (rules_in a.records.now) a.self.now.history.now a.self.now.flag a.cells.now a.report.now c.requires.figures c.requires.admitted l.index l.pairs l.live (rules_in l.records) l.cells l.report u more
    c.rule_at-rule.result c.rule_at-rule.ensures (take (length l.report - 2 * l.pairs) (drop (2 * l.pairs) l.report))
    (take_all (length l.report - 2 * l.pairs) (drop (2 * l.pairs) l.report) (omega (arith, length-drop (2 * l.pairs) l.report)))
    m.result.reported m.result.live m.new.cells m.new.report m.ensures

pub overflow_add-pairs : goal.overflow_add-pairs
overflow_add-pairs c =
    let a = c.args in
    let l = c.loop-index in
    let u = l.invariant.1.1.1 c.requires.figures c.requires.admitted in
    let count : c.byte_after-index-end.result ≡ rule_count a.self.now.sheet.now = c.byte_after-index-end.ensures.0 in
    let more : l.index < rule_count a.self.now.sheet.now = omega (arith, count, c.loop-index-test.true) in
    let m = c.take_rule-moved in
    let few = sums_few a.self.now.sheet.now (rules_in a.records.now) a.self.now.history.now a.self.now.flag a.cells.now a.report.now c.requires.figures c.requires.admitted l.index l.pairs l.live (rules_in l.records) l.cells l.report u more
    c.rule_at-rule.result c.rule_at-rule.ensures (take (length l.report - 2 * l.pairs) (drop (2 * l.pairs) l.report))
    (take_all (length l.report - 2 * l.pairs) (drop (2 * l.pairs) l.report) (omega (arith, length-drop (2 * l.pairs) l.report)))
    m.result.reported m.result.live m.new.cells m.new.report m.ensures in
    omega (
      arith,
      few.0,
      pairs_few a.self.now.sheet.now (rules_in a.records.now) a.self.now.history.now a.self.now.flag a.cells.now a.report.now c.requires.figures c.requires.admitted l.index l.pairs l.live (rules_in l.records) l.cells l.report u more
          c.rule_at-rule.result c.rule_at-rule.ensures,
    )

pub overflow_add-live : goal.overflow_add-live
overflow_add-live c =
    let a = c.args in
    let l = c.loop-index in
    let u = l.invariant.1.1.1 c.requires.figures c.requires.admitted in
    let count : c.byte_after-index-end.result ≡ rule_count a.self.now.sheet.now = c.byte_after-index-end.ensures.0 in
    let more : l.index < rule_count a.self.now.sheet.now = omega (arith, count, c.loop-index-test.true) in
    let m = c.take_rule-moved in
    let few = sums_few a.self.now.sheet.now (rules_in a.records.now) a.self.now.history.now a.self.now.flag a.cells.now a.report.now c.requires.figures c.requires.admitted l.index l.pairs l.live (rules_in l.records) l.cells l.report u more
    c.rule_at-rule.result c.rule_at-rule.ensures (take (length l.report - 2 * l.pairs) (drop (2 * l.pairs) l.report))
    (take_all (length l.report - 2 * l.pairs) (drop (2 * l.pairs) l.report) (omega (arith, length-drop (2 * l.pairs) l.report)))
    m.result.reported m.result.live m.new.cells m.new.report m.ensures in
    omega (
      arith,
      few.1,
      live_few a.self.now.sheet.now (rules_in a.records.now) a.self.now.history.now a.self.now.flag a.cells.now a.report.now c.requires.figures c.requires.admitted l.index l.pairs l.live (rules_in l.records) l.cells l.report u more
          c.rule_at-rule.result c.rule_at-rule.ensures,
    )

pub loop-index-preserved : goal.loop-index-preserved
loop-index-preserved c =
    let a = c.args in
    let l = c.loop-index in
    let count : c.byte_after-index-end.result ≡ rule_count a.self.now.sheet.now = c.byte_after-index-end.ensures.0 in
    let more : l.index < rule_count a.self.now.sheet.now = omega (arith, count, c.loop-index-test.true) in
    let m = c.take_rule-moved in
    let read = c.rule_at-rule in
    let next = c.next_rule in
    let stored = c.store_rule in
    let at : ℕ = 2 * l.pairs in
    let words : ℕ = length l.report - 2 * l.pairs in
    let part : take words (drop at l.report) ≡ drop at l.report = take_all words (drop at l.report) (omega (arith, length-drop at l.report)) in
    let none : drop words (drop at l.report) ≡ [] = drop_of_length-le (drop at l.report) {i = words} (omega (arith, length-drop at l.report)) in
    let pasted : take at l.report ++ (m.new.report ++ drop words (drop at l.report)) ≡ take at l.report ++ m.new.report =
    ap (λ (r : List ℕ). take at l.report ++ (m.new.report ++ r)) none ∙ ap (λ (r : List ℕ). take at l.report ++ r) (append-nil m.new.report) in
    let kept : rules_in stored.new.records ≡ set (rules_in l.records) l.index (next_rule read.result m.result.live) =
    stored.ensures ∙ ap (set (rules_in l.records) l.index) next.ensures in
    let turn = next_so_far a.self.now.sheet.now (rules_in a.records.now) a.self.now.history.now a.self.now.flag a.cells.now a.report.now l.index l.pairs l.live (rules_in l.records) l.cells l.report
    l.invariant.1.1.1 more read.result read.ensures (take words (drop at l.report)) part
    m.result.reported m.result.live m.new.cells m.new.report m.ensures (rules_in stored.new.records)
    (take at l.report ++ (m.new.report ++ drop words (drop at l.report))) kept pasted in
    rw (add-one l.index) (stored.auto.records ∙ l.invariant.0, (m.auto.cells ∙ l.invariant.1.0, ((turn c.requires.figures c.requires.admitted).report_length, turn)))

pub returns : goal.returns
returns c =
    let a = c.args in
    let l = c.loop-index in
    let count : c.byte_after-index-end.result ≡ rule_count a.self.now.sheet.now = c.byte_after-index-end.ensures.0 in
    all_taken a.self.now.sheet.now (rules_in a.records.now) a.self.now.history.now a.self.now.flag a.cells.now a.report.now l.index (rules_in l.records) l.cells l.report l.pairs l.live
    (omega (arith, count, l.auto.index-end, c.loop-index-test.false)) l.invariant.1.1.1
