-- What reading a sheet's rule for a recording answers, by what its parts answered.
use Prim.Native.Nat.{ℕ, ◌-◌, ◌≤◌, ◌<◌}
use mathlib.Core.Path.{◌≡◌, refl, sym, ap}
use mathlib.Core.Bool.{Bool, true, false, cond, ◌&&◌, false≢true}
use mathlib.Core.List.{List}
use native.Mathlib.Omega.{arith}
use lib.Dec.{leb, ltb}
use lib.ListN.{length}
use borrow.Author.Tests.{leb-true, le-leb, lt-leb, ltb-true, lt-ltb, le-ltb}
use Rattle.std.specs.Prelude.{Result, Ok, Err, Some, None}
use Rattle.refusal.specs.declared.Refusal.{Refusal}
use Rattle.refusal.specs.Answer.{Answer, refused, accepted, and_then}
use Rattle.refusal.specs.Numbers.{number_of}
use Rattle.refusal.proofs.Answers.{both_accepted, passed, same_value}
use Rattle.sheet.specs.Sheet.{rule_body}
use Rattle.rule.specs.declared.Verdict.TheVariants.{True, False}
use Rattle.rule.specs.declared.Outcome.{Outcome}
use Rattle.rule.specs.declared.Outcome.TheVariants.{Decided, Open}
use Rattle.rule.specs.Formula.{Formula}
use Rattle.rule.specs.Body.{body}
use Rattle.rule.specs.Meaning.{rule}
use Rattle.rule.specs.Recording.{recorded, over_recording}
use Rattle.nodes.specs.Table.{formula_in}
use Rattle.reader.specs.Decoded.{Decoded}
use Rattle.reader.proofs.Told.{refused_body, read_formula}
use Rattle.complete_report.specs.declared.Violation.{Violation}
use Rattle.complete_report.specs.Report.{complete, recorded_body, recorded_rule, complete_report}
use Rattle.complete_report.specs.FalseSteps.{answered_step, false_step, step_below}
use Rattle.complete_report.proofs.SaidReport.{in_recording}
use Rattle.recorded_rule.specs.Violated.{violated_at}

-- ---- a rule of a sheet

-- What `body_in` answered, as the definition has it.
module _ (sheet : List ℕ) (index : ℕ) (rec : List ℕ) where
  pub no_rule : {n : ℕ} → refused n ≡ rule_body sheet index → refused n ≡ recorded_rule sheet index rec
  unfolding recorded_rule and_then
  no_rule e = rw (sym e) refl

  module _ (s : List ℕ) (found : accepted s ≡ rule_body sheet index) {r : Result (Unit {0}) Refusal} {ns : List ℕ} (d : Decoded s r ns) where
    pub no_body : {x : Refusal} → r ≡ Err x → refused (number_of x) ≡ recorded_rule sheet index rec
    unfolding recorded_rule recorded_body and_then
    no_body e = rw (sym found, refused_body d e) refl

    pub too_long : {u : Unit {0}} → r ≡ Ok u → 65535 < length rec → refused 16 ≡ recorded_rule sheet index rec
    unfolding recorded_rule recorded_body and_then
    too_long e h = let f = read_formula d e in rw (sym found, f.1, lt-leb (length rec) 65535 h) refl

    pub short_enough : {u : Unit {0}} → r ≡ Ok u → length rec ≤ 65535 → accepted (formula_in 64 ns 0 0) ≡ recorded_rule sheet index rec
    unfolding recorded_rule recorded_body and_then
    short_enough e h = let f = read_formula d e in rw (sym found, f.1, le-leb (length rec) 65535 h) (ap accepted f.2.is)

-- ---- a rule that was read

-- The recording is short enough then.
pub recorded_short : (sheet : List ℕ) (index : ℕ) (rec : List ℕ) (F : Formula) → recorded_rule sheet index rec ≡ accepted F → length rec ≤ 65535
unfolding recorded_rule recorded_body
recorded_short sheet index rec F e =
    let b = both_accepted (rule_body sheet index) (λ bytes. recorded_body bytes rec) F e in
    let f = both_accepted (body b.0) (λ G. cond (leb (length rec) 65535) (accepted G) (refused 16)) F b.2 in
    leb-true (length rec) 65535 (passed (leb (length rec) 65535) (accepted f.0) 16 F f.2).0

-- Its complete report, and what is made of it.
pub report_accepted : {A : Type 0} (sheet : List ℕ) (index : ℕ) (rec : List ℕ) (F : Formula) (next : List Violation → Answer A)
    → accepted F ≡ recorded_rule sheet index rec → next (complete F rec) ≡ and_then (complete_report sheet index rec) next
unfolding complete_report and_then
report_accepted sheet index rec F next e = rw (sym e) refl

pub report_refused : {A : Type 0} (sheet : List ℕ) (index : ℕ) (rec : List ℕ) (number : ℕ) (next : List Violation → Answer A)
    → refused number ≡ recorded_rule sheet index rec → refused number ≡ and_then (complete_report sheet index rec) next
unfolding complete_report and_then
report_refused sheet index rec number next e = rw (sym e) refl

-- ---- the step at a tick

module _ (F : Formula) (rec : List ℕ) (tick : ℕ) where
  -- Whatever is no violation has the recording's length for its step, and so none.
  no_step : (a : Answer Outcome) → a ≡ over_recording F rec tick → answered_step (length rec) a ≡ length rec
      → None ≡ step_below (length rec) (false_step F rec tick)
  unfolding false_step
  no_step a e x = rw (sym e, x, le-ltb (length rec) (length rec) (omega arith)) refl

  -- A violation's step is one of the recording.
  step_inside : (d : ℕ) → accepted (Decided False d) ≡ over_recording F rec tick → d < length rec
  unfolding over_recording
  step_inside d e =
      let both = passed (leb (length rec) 65535 && ltb tick (length rec)) (accepted (rule F (recorded rec) (length rec - 1) tick)) 16 (Decided False d) (sym e) in
      in_recording F rec tick d (ltb-true tick (length rec) (second_true (leb (length rec) 65535) (ltb tick (length rec)) both.0)) (same_value both.1)
    where
      second_true : (a b : Bool) → (a && b) ≡ true → b ≡ true
      second_true true b h = h
      second_true false b h = absurd (false≢true h)

  step_found : (d : ℕ) → accepted (Decided False d) ≡ over_recording F rec tick → Some d ≡ step_below (length rec) (false_step F rec tick)
  unfolding false_step
  step_found d e = let l : d < length rec = step_inside d e in rw (sym e, lt-ltb d (length rec) l) refl

  -- By what the evaluator answered.
  pub step_answered : (o : Outcome) → accepted o ≡ over_recording F rec tick → violated_at o ≡ step_below (length rec) (false_step F rec tick)
  step_answered (Decided True d) e = no_step (accepted (Decided True d)) e refl
  step_answered (Decided False d) e = step_found d e
  step_answered Open e = no_step (accepted Open) e refl

  pub step_refused : {n : ℕ} → refused n ≡ over_recording F rec tick → None ≡ step_below (length rec) (false_step F rec tick)
  step_refused {n} e = no_step (refused n) e refl
