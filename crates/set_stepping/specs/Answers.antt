-- What the answers of a step and of a batch of a set stand for.
use Rattle.std.specs.Prelude.{ℕ, List, Result, Ok, Err}
use Rattle.refusal.specs.declared.Refusal.{Refusal}
use Rattle.refusal.specs.Answer.{Answer, refused, accepted}
use Rattle.refusal.specs.Numbers.{number_of}
use Rattle.demand.specs.declared.Running.{Running}
use Rattle.demand.specs.SetContract.{SetTaken, SetCounts, running_rules}
use Rattle.instances.specs.declared.stepping.StepCounts.{StepCounts}
use Rattle.set_stepping.specs.declared.batch.SetBatchCounts.{SetBatchCounts}

-- With the running rules of this sheet, in the records as they are then; or the refusal's number.
abbrev pub set_taken : ℕ → ℕ → List ℕ → List Running → SetTaken
set_taken pairs live sheet records = record { pairs = pairs; live_count = live; running = running_rules sheet records }

abbrev pub set_counts : ℕ → ℕ → ℕ → List ℕ → List Running → SetCounts
set_counts taken triples live sheet records = record { taken = taken; triples = triples; live_count = live; running = running_rules sheet records }

abbrev pub set_step_answer : Result StepCounts Refusal → List ℕ → List Running → Answer SetTaken
set_step_answer (Ok counts) sheet records = accepted (set_taken counts.reported counts.live sheet records)
set_step_answer (Err refusal) sheet records = refused (number_of refusal)

abbrev pub set_batch_answer : Result SetBatchCounts Refusal → List ℕ → List Running → Answer SetCounts
set_batch_answer (Ok counts) sheet records = accepted (set_counts counts.taken counts.triples counts.live sheet records)
set_batch_answer (Err refusal) sheet records = refused (number_of refusal)
