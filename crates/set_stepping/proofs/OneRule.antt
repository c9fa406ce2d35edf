-- One rule of a set takes its tick: from what a tick of the rule by itself promises, on the part of the cells and of the report that it is lent.
use Prim.Native.Nat.{ℕ, ◌+◌, ◌*◌, ◌≤◌}
use mathlib.Core.Path.{◌≡◌, refl, sym, ap, subst, ◌∙◌}
use mathlib.Core.List.{List, ◌++◌}
use native.Mathlib.Omega.{arith}
use lib.ListN.{length, take, drop, length-append, length-drop, take-append-drop}
use lib.Seq.{length-take-le, take-append-le, drop-append-le, drop-drop}
use Rattle.std.specs.Prelude.{Result, Ok, Err}
use Rattle.std.specs.Result.{result_unwrap_or}
use Rattle.refusal.specs.declared.Refusal.{Refusal}
use Rattle.refusal.specs.Answer.{accepted}
use Rattle.refusal.proofs.Answers.{not_accepted, same_value}
use Rattle.rule.specs.declared.Figures.{Figures}
use Rattle.demand.specs.declared.Running.{Running}
use Rattle.demand.specs.Contract.{State, Step, step_of, admit_step, Takes, Stepped}
use Rattle.demand.specs.SetContract.{body_at, rule_state, own_cells, next_rule, numbered, needs, Ticked}
use Rattle.demand.proofs.SetTicks.{ticked}
use Rattle.cell_runs.specs.Moves.{Stands}
use Rattle.cell_runs.specs.States.{taken_from}
use Rattle.instances.specs.declared.stepping.StepCounts.{StepCounts}
use Rattle.instances.specs.Answers.{step_answer, history_after, TickOf}
use Rattle.set_stepping.specs.Moves.{RuleFit, RuleMoved}

module _ (sheet : List ℕ) (rule : Running) (history : List ℕ) (flag : ℕ) (cells report : List ℕ) (fit : RuleFit sheet rule (length history) (length cells) (length report)) where
  abbrev half : ℕ
  half = rule.delay + 1

  abbrev state : State
  state = rule_state sheet rule

  own_long : length (own_cells rule cells) ≡ 4 * rule.cells
  own_long =
      length-take-le (4 * rule.cells) (drop (4 * rule.first) cells) (omega (arith, fit.cells_fit, length-drop (4 * rule.first) cells))

  words_long : length (take half report) ≡ half
  words_long = length-take-le half report (omega (arith, fit.report_fits))

  abbrev made : Result StepCounts Refusal → List ℕ → List ℕ → Step
  made answer own words =
      step_of (step_answer state answer) flag history (own_cells rule cells) (take half report)
      (history_after rule.opened rule.next flag history (step_answer state answer)) own words

  admits : (answer : Result StepCounts Refusal) (own words : List ℕ) → admit_step state (made answer own words) ≡ accepted (needs sheet rule)
  admits answer own words = rw (own_long, words_long) fit.admitted

  -- What the tick of the rule by itself gives.
  record Alone (own words : List ℕ) (reported live : ℕ) : Type 0 where
    takes : Takes Stands state (made (Ok (record { reported = reported; live = live })) own words) (needs sheet rule) (taken_from state reported live)

  -- It was not refused.
  alone : (answer : Result StepCounts Refusal) (own words : List ℕ) → Stepped Stands state (made answer own words) (step_answer state answer)
      → (counts : StepCounts) × (answer ≡ Ok counts) × Alone own words counts.reported counts.live
  alone (Err refusal) own words (number, same) = absurd (not_accepted (sym number ∙ admits (Err refusal) own words))
  alone (Ok counts) own words (figures, yes', takes) =
      let same : figures ≡ needs sheet rule = same_value (sym yes' ∙ admits (Ok counts) own words) in
      (counts, refl, record { takes = subst (λ (f : Figures). Takes Stands state (made (Ok counts) own words) f (taken_from state counts.reported counts.live)) same takes })

  module _ (own words : List ℕ) (reported live : ℕ) (a : Alone own words reported live) (long : length own ≡ length (own_cells rule cells)) where
    few_reported : reported ≤ half
    few_reported = omega (arith, a.takes.few, fit.delay_is)

    few_alive : live ≤ half
    few_alive = omega (arith, a.takes.few_live, fit.delay_is)

    after_long : length words ≡ half
    after_long = a.takes.report_length ∙ words_long

    -- The words of the report after the rule's own are as they were.
    kept_words : drop (2 * reported) (words ++ drop half report) ≡ drop (2 * reported) report
    kept_words =
        let twice : 2 * reported ≡ reported + reported = omega arith in
        let one : drop reported (words ++ drop half report) ≡ drop reported report =
        drop-append-le reported words (drop half report) (omega (arith, few_reported, after_long))
        ∙ ap (λ (l : List ℕ). l ++ drop half report) a.takes.report_rest
        ∙ sym (drop-append-le reported (take half report) (drop half report) (omega (arith, few_reported, words_long)))
        ∙ ap (drop reported) (take-append-drop half report) in
        rw twice (sym (drop-drop reported reported (words ++ drop half report)) ∙ ap (drop reported) one ∙ drop-drop reported reported report)

    report_room : 2 * reported ≤ length (words ++ drop half report)
    report_room = omega (arith, few_reported, after_long, length-append words (drop half report), length-drop half report, fit.report_fits)

    abbrev ticks : List ℕ
    ticks = take reported words

    tick_taken : Ticked Stands state (needs sheet rule) flag history (own_cells rule cells) own ticks (rule_state sheet (next_rule rule live))
    tick_taken =
        ticked Stands state (made (Ok (record { reported = reported; live = live })) own words) (needs sheet rule) (taken_from state reported live) (omega (arith, own_long, fit.cells_are)) a.takes

    moved : (index : ℕ) (cells' report' : List ℕ) → cells' ≡ take (4 * rule.first) cells ++ (own ++ drop (4 * rule.cells) (drop (4 * rule.first) cells))
        → report' ≡ numbered index (take reported (words ++ drop half report)) ++ drop (2 * reported) (words ++ drop half report)
        → RuleMoved sheet rule index history flag cells report reported live cells' report'
    moved index cells' report' cells_are report_is =
        record {
          own = own;
          own_length = long ∙ own_long;
          ticks = ticks;
          count = sym (length-take-le reported words (omega (arith, few_reported, after_long)));
          ticked = tick_taken;
          few = few_reported;
          few_live = few_alive;
          cells_are = cells_are;
          report_is =
              report_is
              ∙ ap (λ (l : List ℕ). numbered index l ++ drop (2 * reported) (words ++ drop half report))
              (take-append-le reported words (drop half report) (omega (arith, few_reported, after_long)))
              ∙ ap (λ (l : List ℕ). numbered index ticks ++ l) kept_words;
        }

-- ---- for the function

-- The counts of a tick that was not refused are those that are read off its answer.
taken_off : (answer : Result StepCounts Refusal) (none counts read : StepCounts) → answer ≡ Ok counts → read ≡ result_unwrap_or answer none → counts ≡ read
taken_off answer none counts read e h = rw e at (sym h)

module _ (sheet : List ℕ) (rule : Running) (history : List ℕ) (flag : ℕ) (cells report : List ℕ) (fit : RuleFit sheet rule (length history) (length cells) (length report))
    (answer : Result StepCounts Refusal) (bytes own₀ own words : List ℕ) (bytes_are : bytes ≡ body_at sheet rule) (own₀_is : own₀ ≡ own_cells rule cells)
    (long : length own ≡ length own₀)
    (told : TickOf bytes rule.opened rule.next flag history own₀ (take (rule.delay + 1) report) answer own words)
    (none read : StepCounts) (read_is : read ≡ result_unwrap_or answer none) where
  took : Alone sheet rule history flag cells report fit own words read.reported read.live
  took =
      let told' : TickOf (body_at sheet rule) rule.opened rule.next flag history (own_cells rule cells) (take (rule.delay + 1) report) answer own words =
      rw (← bytes_are, ← own₀_is) told in
      let a = alone sheet rule history flag cells report fit answer own words (told' rule.live) in
      subst (λ (counts : StepCounts). Alone sheet rule history flag cells report fit own words counts.reported counts.live) (taken_off answer none a.0 read a.1 read_is) a.2

  pub rule_room : 2 * read.reported ≤ length (words ++ drop (rule.delay + 1) report)
  rule_room = report_room sheet rule history flag cells report fit own words read.reported read.live took (long ∙ ap length own₀_is)

  pub rule_moved : (index : ℕ) (cells' report' : List ℕ)
      → cells' ≡ take (4 * rule.first) cells ++ (own ++ drop (4 * rule.cells) (drop (4 * rule.first) cells))
      → report' ≡ numbered index (take read.reported (words ++ drop (rule.delay + 1) report)) ++ drop (2 * read.reported) (words ++ drop (rule.delay + 1) report)
      → RuleMoved sheet rule index history flag cells report read.reported read.live cells' report'
  rule_moved index cells' report' cells_are report_is =
      moved sheet rule history flag cells report fit own words read.reported read.live took (long ∙ ap length own₀_is) index cells' report' cells_are report_is
