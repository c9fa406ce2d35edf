-- What the answers of a step and of a batch stand for, and what they promise.
use Rattle.std.specs.Prelude.{ℕ, ◌%◌, List, set, Result, Ok, Err}
use Rattle.refusal.specs.declared.Refusal.{Refusal}
use Rattle.refusal.specs.Answer.{Answer, refused, accepted, or_kept}
use Rattle.refusal.specs.Numbers.{number_of}
use Rattle.demand.specs.Contract.{State, state_at, Taken, Counts, step_of, batch_of, Stepped, Batched}
use Rattle.cell_runs.specs.States.{taken_from, counts_from}
use Rattle.cell_runs.specs.Moves.{Stands}
use Rattle.instances.specs.declared.stepping.StepCounts.{StepCounts}
use Rattle.instances.specs.declared.batch.BatchCounts.{BatchCounts}

abbrev pub step_answer : State → Result StepCounts Refusal → Answer Taken
step_answer state (Ok counts) = accepted (taken_from state counts.reported counts.live)
step_answer state (Err refusal) = refused (number_of refusal)

abbrev pub batch_answer : State → Result BatchCounts Refusal → Answer Counts
batch_answer state (Ok counts) = accepted (counts_from state counts.taken counts.pairs counts.live)
batch_answer state (Err refusal) = refused (number_of refusal)

-- The history of L bytes after a step at tick t.
abbrev pub history_after : ℕ → ℕ → ℕ → List ℕ → Answer Taken → List ℕ
history_after L t flag history answer = or_kept (λ taken. set history (t % L) flag) answer history

-- A step of the rule with this body, whose history was opened with L bytes and which takes tick t, however many ticks are live.
abbrev pub StepOf : List ℕ → ℕ → ℕ → ℕ → List ℕ → List ℕ → List ℕ → Result StepCounts Refusal → List ℕ → List ℕ → List ℕ → Type 0
StepOf body L t flag history cells report answer history' cells' report' =
    (live : ℕ) → Stepped Stands (state_at body L t live) (step_of (step_answer (state_at body L t live) answer) flag history cells report history' cells' report') (step_answer (state_at body L t live) answer)

-- The same with a history that is only read: what it will be once the byte of a tick that was taken is stored.
abbrev pub TickOf : List ℕ → ℕ → ℕ → ℕ → List ℕ → List ℕ → List ℕ → Result StepCounts Refusal → List ℕ → List ℕ → Type 0
TickOf body L t flag history cells report answer cells' report' =
    (live : ℕ) → Stepped Stands (state_at body L t live) (step_of (step_answer (state_at body L t live) answer) flag history cells report (history_after L t flag history (step_answer (state_at body L t live) answer)) cells' report') (step_answer (state_at body L t live) answer)

-- A batch, which starts with so many live ticks.
abbrev pub BatchOf : List ℕ → ℕ → ℕ → ℕ → List ℕ → List ℕ → List ℕ → List ℕ → Result BatchCounts Refusal → List ℕ → List ℕ → List ℕ → Type 0
BatchOf body L t live flags history cells report answer history' cells' report' =
    Batched Stands (state_at body L t live) (batch_of (batch_answer (state_at body L t live) answer) flags history cells report history' cells' report') (batch_answer (state_at body L t live) answer)
