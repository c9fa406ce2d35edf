-- The example of document 000, figure 2, and its run in document 01: bytes 00 01 01 00 01 01 01 01 00 00, "violation 5 at 7". proofs/Cases.antt
-- proves what is stated here.
use Rattle.std.specs.Prelude.{ℕ, ◌≡◌, List, [], ◌∷◌, length}
use Rattle.refusal.specs.Answer.{refused, accepted}
use Rattle.rule.specs.declared.Verdict.TheVariants.{True, False}
use Rattle.rule.specs.declared.Outcome.TheVariants.{Decided, Open}
use Rattle.rule.specs.Meaning.{rule}
use Rattle.rule.specs.Recording.{recorded, over_recording}
use Rattle.rule.specs.Steps.{report, live}
use Rattle.marked_cases.specs.Marked.{example_rule}

abbrev pub example_stream : List ℕ
example_stream = 0 ∷ 1 ∷ 1 ∷ 0 ∷ 1 ∷ 1 ∷ 1 ∷ 1 ∷ 0 ∷ 0 ∷ []

-- What the step that takes tick t reports, and how many ticks are live after it.
abbrev pub example_report : ℕ → List ℕ
example_report t = report example_rule (recorded example_stream) t

abbrev pub example_live : ℕ → ℕ
example_live t = length (live example_rule (recorded example_stream) t)

pub record ExampleRun : Type 0 where
  pub step_0 : (example_report 0 ≡ []) × (example_live 0 ≡ 0)
  pub step_1 : (example_report 1 ≡ []) × (example_live 1 ≡ 0)
  pub step_2 : (example_report 2 ≡ []) × (example_live 2 ≡ 1)
  pub step_3 : (example_report 3 ≡ []) × (example_live 3 ≡ 0)
  pub step_4 : (example_report 4 ≡ []) × (example_live 4 ≡ 0)
  pub step_5 : (example_report 5 ≡ []) × (example_live 5 ≡ 1)
  pub step_6 : (example_report 6 ≡ []) × (example_live 6 ≡ 2)
  pub step_7 : (example_report 7 ≡ 5 ∷ []) × (example_live 7 ≡ 2)
  pub step_8 : (example_report 8 ≡ []) × (example_live 8 ≡ 0)
  pub step_9 : (example_report 9 ≡ []) × (example_live 9 ≡ 0)

-- The recording evaluator's answers.
pub record Recorded : Type 0 where
  pub tick_0 : over_recording example_rule example_stream 0 ≡ accepted (Decided True 0)
  pub tick_4 : over_recording example_rule example_stream 4 ≡ accepted (Decided True 4)
  pub tick_5 : over_recording example_rule example_stream 5 ≡ accepted (Decided False 7)
  pub tick_6 : over_recording example_rule example_stream 6 ≡ accepted (Decided True 8)
  pub tick_9 : over_recording example_rule example_stream 9 ≡ accepted (Decided True 9)
  pub tick_10 : over_recording example_rule example_stream 10 ≡ refused 16
  pub still_open : rule example_rule (recorded example_stream) 6 5 ≡ Open
