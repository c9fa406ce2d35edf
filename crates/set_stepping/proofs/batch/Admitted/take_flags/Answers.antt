-- `set_stepping::batch::Admitted::take_flags` meets its contract.
use Prim.Native.Nat.{ℕ, suc, ◌+◌, ◌*◌, ◌-◌, min}
use mathlib.Core.Path.{◌≡◌, refl, sym, ap, subst, ◌∙◌}
use mathlib.Core.List.{List, [], ◌++◌, append-nil}
use native.Mathlib.Omega.{arith}
use native.Mathlib.Numerals.{add-one}
use lib.ListN.{length, take, drop, length-drop, drop_of_length-le}
use lib.Seq.{take_all}
use Rattle.refusal.proofs.Answers.{same_value}
use Rattle.rule.specs.declared.Figures.{Figures}
use Rattle.demand.specs.declared.Running.{Running}
use Rattle.demand.specs.SetContract.{all_live, running_rules, next_tick}
use Rattle.running.specs.Records.{rules_in}
use Rattle.set_stepping.proofs.ManyFlags.{Under, few, under_start, timed_fits, flag_pairs, under_more, ends_all}
use Rattle.set_stepping.proofs.batch.Admitted.take_flags.Goals as goal

pub loop-taken-init : goal.loop-taken-init
loop-taken-init c =
    let a = c.args in
    let all : c.all_live-live.result ≡ all_live (running_rules a.self.now.sheet.now (rules_in a.records.now)) =
    c.all_live-live.ensures ∙ ap (λ (n : ℕ). all_live (take n (rules_in a.records.now))) c.byte_after.ensures.0 in
    (refl, λ figures admitted. under_start a.self.now.sheet.now (rules_in a.records.now) a.flags.now a.history.now a.cells.now a.report.now figures admitted c.all_live-live.result all)

pub take_timed-moved-requires : goal.take_timed-moved-requires
take_timed-moved-requires c =
    let a = c.args in
    let l = c.loop-taken in
    let lead = c.rule_at-lead in
    let next : lead.result.next ≡ next_tick (rules_in a.records.now) = ap (λ (r : Running). r.next) lead.ensures in
    let count = c.flags_left-count.ensures in
    let test = c.loop-taken-test.true in
    let u = l.invariant.1 c.requires.figures c.requires.admitted in
    let most = few a.self.now.sheet.now (rules_in a.records.now) a.flags.now a.history.now a.cells.now a.report.now c.requires.figures c.requires.admitted in
    timed_fits a.self.now.sheet.now (rules_in a.records.now) a.flags.now a.history.now a.cells.now a.report.now c.requires.figures (rules_in l.records) l.history l.cells l.report l.taken l.triples l.live u (omega (arith, c.if-report-at.false, u.report_length, u.inside, c.requires.pairs_are)) (omega (arith, count, test)) (omega (arith, count, test, next)) most
    (take (length l.report - 3 * l.triples) (drop (3 * l.triples) l.report))
    (take_all (length l.report - 3 * l.triples) (drop (3 * l.triples) l.report) (omega (arith, length-drop (3 * l.triples) l.report))) a.self.now.most c.requires.pairs_are

pub overflow_add-triples : goal.overflow_add-triples
overflow_add-triples c =
    let a = c.args in
    let l = c.loop-taken in
    let lead = c.rule_at-lead in
    let next : lead.result.next ≡ next_tick (rules_in a.records.now) = ap (λ (r : Running). r.next) lead.ensures in
    let count = c.flags_left-count.ensures in
    let test = c.loop-taken-test.true in
    let u = l.invariant.1 c.requires.figures c.requires.admitted in
    let most = few a.self.now.sheet.now (rules_in a.records.now) a.flags.now a.history.now a.cells.now a.report.now c.requires.figures c.requires.admitted in
    let m = c.take_timed-moved in
    let pairs = flag_pairs a.self.now.sheet.now (rules_in a.records.now) a.flags.now a.history.now a.cells.now a.report.now c.requires.figures (rules_in l.records) l.history l.cells l.report l.taken l.triples l.live u (omega (arith, c.if-report-at.false, u.report_length, u.inside, c.requires.pairs_are)) (omega (arith, count, test)) (omega (arith, count, test, next)) most
    (take (length l.report - 3 * l.triples) (drop (3 * l.triples) l.report))
    (take_all (length l.report - 3 * l.triples) (drop (3 * l.triples) l.report) (omega (arith, length-drop (3 * l.triples) l.report))) a.self.now.most c.requires.pairs_are m.result.reported m.result.live (rules_in m.new.records) m.new.history m.new.cells m.new.report m.ensures m.auto.history m.auto.cells in
    omega (arith, pairs, u.inside, u.report_length)

pub loop-taken-preserved : goal.loop-taken-preserved
loop-taken-preserved c =
    let a = c.args in
    let l = c.loop-taken in
    let lead = c.rule_at-lead in
    let next : lead.result.next ≡ next_tick (rules_in a.records.now) = ap (λ (r : Running). r.next) lead.ensures in
    let count = c.flags_left-count.ensures in
    let test = c.loop-taken-test.true in
    let u = l.invariant.1 c.requires.figures c.requires.admitted in
    let most = few a.self.now.sheet.now (rules_in a.records.now) a.flags.now a.history.now a.cells.now a.report.now c.requires.figures c.requires.admitted in
    let m = c.take_timed-moved in
    let at : ℕ = 3 * l.triples in
    let words : ℕ = length l.report - 3 * l.triples in
    let none : drop words (drop at l.report) ≡ [] = drop_of_length-le (drop at l.report) {i = words} (omega (arith, length-drop at l.report)) in
    let pasted : take at l.report ++ (m.new.report ++ drop words (drop at l.report)) ≡ take at l.report ++ m.new.report =
    ap (λ (r : List ℕ). take at l.report ++ (m.new.report ++ r)) none ∙ ap (λ (r : List ℕ). take at l.report ++ r) (append-nil m.new.report) in
    let report' : List ℕ = take at l.report ++ (m.new.report ++ drop words (drop at l.report)) in
    let one = under_more a.self.now.sheet.now (rules_in a.records.now) a.flags.now a.history.now a.cells.now a.report.now c.requires.figures (rules_in l.records) l.history l.cells l.report l.taken l.triples l.live u (omega (arith, c.if-report-at.false, u.report_length, u.inside, c.requires.pairs_are)) (omega (arith, count, test)) (omega (arith, count, test, next)) most
    (take (length l.report - 3 * l.triples) (drop (3 * l.triples) l.report))
    (take_all (length l.report - 3 * l.triples) (drop (3 * l.triples) l.report) (omega (arith, length-drop (3 * l.triples) l.report))) a.self.now.most c.requires.pairs_are m.result.reported m.result.live (rules_in m.new.records) m.new.history m.new.cells m.new.report m.ensures m.auto.history m.auto.cells report' pasted in
    rw (add-one l.taken) (
      m.auto.records ∙ l.invariant.0,
      λ figures admitted.
          subst (λ (fs : List Figures). Under a.self.now.sheet.now (rules_in a.records.now) a.flags.now a.history.now a.cells.now a.report.now fs (rules_in m.new.records) m.new.history m.new.cells report' (suc l.taken) (l.triples + m.result.reported) m.result.live)
          (same_value (sym c.requires.admitted ∙ admitted)) one,
    )

pub returns : goal.returns
returns c figures admitted =
    let a = c.args in
    let l = c.loop-taken in
    let count = c.flags_left-count in
    let all : l.taken ≡ count.result = omega (arith, l.auto.taken-end, c.loop-taken-test.false) in
    rw (← all)
    (ends_all a.self.now.sheet.now (rules_in a.records.now) a.flags.now a.history.now a.cells.now a.report.now figures (rules_in l.records) l.history l.cells l.report l.taken l.triples l.live
    (l.invariant.1 figures admitted) count.result
    (count.ensures ∙ ap (λ (r : Running). min (length a.flags.now) (4611686018427387904 - r.next)) c.rule_at-lead.ensures) (omega (arith, c.loop-taken-test.false)))
