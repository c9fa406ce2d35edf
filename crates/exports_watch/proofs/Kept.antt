-- Opening, step and batch keep their promises of state bytes, by what the engine promises of the state that they hold.
-- Assumes nothing.
use Prim.Native.Nat.{ℕ, suc, ◌+◌, ◌≤◌, ◌<◌}
use mathlib.Core.Path.{◌≡◌, refl, sym, ap, subst, ◌∙◌}
use mathlib.Core.List.{List}
use native.Mathlib.Omega.{arith}
use lib.ListN.{length}
use Rattle.std.specs.Prelude.{Result, Ok, Err}
use Rattle.refusal.specs.declared.Refusal.{Refusal}
use Rattle.refusal.specs.Answer.{Answer, refused, accepted, answered, or_kept}
use Rattle.refusal.specs.Numbers.{number_of}
use Rattle.refusal.proofs.Positive.{positive}
use Rattle.sheet.specs.Sheet.{body_part, rule_body}
use Rattle.sheet.proofs.Bodies.{body_size}
use Rattle.demand.specs.Contract.{State, Taken, Counts, opening_of, step_of, batch_of, Opened, Stepped, Batched, OpenPromise, StepPromise, BatchPromise}
use Rattle.instances.specs.declared.stepping.StepCounts.{StepCounts}
use Rattle.instances.specs.declared.batch.BatchCounts.{BatchCounts}
use Rattle.cell_runs.specs.States.{taken_from, counts_from}
use Rattle.instances.specs.Answers.{step_answer, batch_answer}
use Rattle.cell_runs.specs.Moves.{Stands}
use Rattle.engine.specs.declared.state.State as code
use Rattle.engine.specs.States.{state_of, fresh_code, blank_code, moved_code, by_value}
use Rattle.engine.specs.Promises.{open_answer, opened_state}
use Rattle.engine.proofs.States.{length_padded}
use Rattle.state_bytes.specs.Numbers.{number_at}
use Rattle.state_bytes.specs.States.{loaded, stored, state_in, Storable, moved_bytes, in_bytes}
use Rattle.state_bytes.proofs.States.{load_stored, load_moved}

-- ---- opening

module _ (sheet : List ℕ) (number : ℕ) (history cells st : List ℕ) (o : Result code.State Refusal) (history' : List ℕ)
    (p : OpenPromise Stands by_value blank_code (opening_of (open_answer o) sheet number history cells history') (opened_state o)) where
  abbrev OpenKept : ℕ → List ℕ → Type 0
  OpenKept n st' = OpenPromise Stands in_bytes st (opening_of (answered n (state_in st')) sheet number history cells history') st'

  abbrev Opening : Result code.State Refusal → Type 0
  Opening a = OpenPromise Stands by_value blank_code (opening_of (open_answer a) sheet number history cells history') (opened_state a)

  pub open_refused : {x : Refusal} (n : ℕ) → o ≡ Err x → n ≡ number_of x → OpenKept n st
  open_refused {x} n e i =
      let q : Opening (Err x) = subst Opening e p in
      let z = positive x in
      rw (i, z.1) (record { keeps = (q.keeps.0 ∙ ap refused z.1, q.keeps.1, q.keeps.2); left = refl; goes_on = tt })

  module _ (s : code.State) (e : o ≡ Ok s) (fits : length history < 18446744073709551616) where
    q : Opening (Ok s)
    q = subst Opening e p

    state_is : s ≡ fresh_code (body_part (rule_body sheet number)) (length history)
    state_is = q.left

    short : length (body_part (rule_body sheet number)) ≤ 512
    short = let b = q.keeps.2 in rw b (body_size sheet number q.keeps.0 b).1

    storable : Storable s
    storable =
        let b = body_part (rule_body sheet number) in
        let h = short in
        rw state_is
        (record { room = length_padded b short; size_fits = omega arith; opened_fits = fits; next_fits = omega arith; live_fits = omega arith })

    pub open_accepted : (st' : List ℕ) → st' ≡ stored s → OpenKept 0 st'
    unfolding state_in
    open_accepted st' i =
        let same : state_of s ≡ state_in st' = sym (ap (λ (x : List ℕ). state_of (loaded x)) i ∙ ap state_of (load_stored s storable)) in
        record {
          keeps = subst (λ (y : State). Opened Stands (opening_of (accepted y) sheet number history cells history') (accepted y)) same q.keeps;
          left = i ∙ ap stored state_is;
          goes_on = refl;
        }

-- ---- step

module _ (st : List ℕ) (flag : ℕ) (history cells report : List ℕ) where
  abbrev StepKept : Answer Taken → List ℕ → List ℕ → List ℕ → List ℕ → Type 0
  StepKept a st' history' cells' report' = StepPromise Stands in_bytes st (step_of a flag history cells report history' cells' report') st'

  module _ (s : code.State) (is : s ≡ loaded st) (a : Result StepCounts Refusal) (s' : code.State) (history' cells' report' : List ℕ)
      (p : StepPromise Stands by_value s (step_of (step_answer (state_of s) a) flag history cells report history' cells' report') s') where
    abbrev StepFrom : code.State → Result StepCounts Refusal → Type 0
    StepFrom x y = Stepped Stands (state_of x) (step_of (step_answer (state_of x) y) flag history cells report history' cells' report') (step_answer (state_of x) y)

    -- the state that an answer leaves
    abbrev StepLeft : Result StepCounts Refusal → code.State
    StepLeft y = or_kept (λ (taken : Taken). moved_code s (suc (state_of s).next) taken.live_count) (step_answer (state_of s) y) s

    kept : (y : Result StepCounts Refusal) → a ≡ y → StepFrom (loaded st) y
    kept y e = subst (λ (x : code.State). StepFrom x y) is (subst (StepFrom s) e p.keeps)

    pub step_refused : {x : Refusal} (n reported live : ℕ) → a ≡ Err x → n ≡ number_of x
        → StepKept (answered n (taken_from (state_in st) reported live)) st history' cells' report'
    unfolding state_in
    step_refused {x} n reported live e i =
        let q = kept (Err x) e in
        let z = positive x in
        rw (i, z.1) (record { keeps = (q.0 ∙ ap refused z.1, q.1); left = refl; goes_on = refl })

    pub step_taken : {counts : StepCounts} (st' : List ℕ) → a ≡ Ok counts → s'.next < 18446744073709551616 → counts.live < 18446744073709551616 → length st ≡ 544
        → st' ≡ moved_bytes st s'.next counts.live → StepKept (accepted (taken_from (state_in st) counts.reported counts.live)) st' history' cells' report'
    unfolding state_in state_of loaded
    step_taken {counts} st' e low fits long w =
        let went : s' ≡ moved_code s (suc s.next) counts.live = subst (λ (y : Result StepCounts Refusal). s' ≡ StepLeft y) e p.left in
        let next : s'.next ≡ suc (number_at st 528) = ap (λ (x : code.State). x.next) went ∙ ap (λ (x : code.State). suc x.next) is in
        let j : st' ≡ moved_bytes st (suc (number_at st 528)) counts.live = w ∙ ap (λ (x : ℕ). moved_bytes st x counts.live) next in
        let m = load_moved st (suc (number_at st 528)) counts.live long (omega arith) fits in
        record { keeps = kept (Ok counts) e; left = j; goes_on = ap state_in j ∙ ap state_of m }

-- ---- batch

module _ (st flags history cells report : List ℕ) where
  abbrev BatchKept : Answer Counts → List ℕ → List ℕ → List ℕ → List ℕ → Type 0
  BatchKept a st' history' cells' report' = BatchPromise Stands in_bytes st (batch_of a flags history cells report history' cells' report') st'

  module _ (s : code.State) (is : s ≡ loaded st) (a : Result BatchCounts Refusal) (s' : code.State) (history' cells' report' : List ℕ)
      (p : BatchPromise Stands by_value s (batch_of (batch_answer (state_of s) a) flags history cells report history' cells' report') s') where
    abbrev BatchFrom : code.State → Result BatchCounts Refusal → Type 0
    BatchFrom x y = Batched Stands (state_of x) (batch_of (batch_answer (state_of x) y) flags history cells report history' cells' report') (batch_answer (state_of x) y)

    abbrev BatchLeft : Result BatchCounts Refusal → code.State
    BatchLeft y = or_kept (λ (counts : Counts). moved_code s counts.state.next counts.state.live_count) (batch_answer (state_of s) y) s

    batch_kept : (y : Result BatchCounts Refusal) → a ≡ y → BatchFrom (loaded st) y
    batch_kept y e = subst (λ (x : code.State). BatchFrom x y) is (subst (BatchFrom s) e p.keeps)

    pub batch_refused : {x : Refusal} (n taken pairs live : ℕ) → a ≡ Err x → n ≡ number_of x
        → BatchKept (answered n (counts_from (state_in st) taken pairs live)) st history' cells' report'
    unfolding state_in
    batch_refused {x} n taken pairs live e i =
        let q = batch_kept (Err x) e in
        let z = positive x in
        rw (i, z.1) (record { keeps = (q.0 ∙ ap refused z.1, q.1); left = refl; goes_on = refl })

    pub batch_taken : {counts : BatchCounts} (st' : List ℕ) → a ≡ Ok counts → s'.next < 18446744073709551616 → counts.live < 18446744073709551616 → length st ≡ 544
        → st' ≡ moved_bytes st s'.next counts.live → BatchKept (accepted (counts_from (state_in st) counts.taken counts.pairs counts.live)) st' history' cells' report'
    unfolding state_in state_of loaded
    batch_taken {counts} st' e low fits long w =
        let went : s' ≡ moved_code s (s.next + counts.taken) counts.live = subst (λ (y : Result BatchCounts Refusal). s' ≡ BatchLeft y) e p.left in
        let next : s'.next ≡ number_at st 528 + counts.taken = ap (λ (x : code.State). x.next) went ∙ ap (λ (x : code.State). x.next + counts.taken) is in
        let j : st' ≡ moved_bytes st (number_at st 528 + counts.taken) counts.live = w ∙ ap (λ (x : ℕ). moved_bytes st x counts.live) next in
        let m = load_moved st (number_at st 528 + counts.taken) counts.live long (omega arith) fits in
        record { keeps = batch_kept (Ok counts) e; left = j; goes_on = ap state_in j ∙ ap state_of m }
