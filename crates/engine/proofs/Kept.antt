-- A step and a batch keep their promises, by what their parts answered.
use Prim.Native.Nat.{ℕ, suc, ◌+◌, ◌≤◌}
use mathlib.Core.Path.{◌≡◌, refl, sym, ap, subst, ◌∙◌}
use mathlib.Core.Bool.{Bool, true, false, cond}
use mathlib.Core.List.{List, []}
use native.Mathlib.Omega.{arith}
use native.Mathlib.Numerals.{add-one}
use lib.Dec.{leb}
use lib.ListN.{length, take}
use Rattle.std.specs.Prelude.{Result, Ok, Err}
use Rattle.refusal.specs.declared.Refusal.{Refusal}
use Rattle.refusal.specs.declared.Refusal.TheVariants.{StateNotOpened}
use Rattle.refusal.specs.Answer.{Answer, refused, and_then, number, answer_of}
use Rattle.refusal.specs.Numbers.{number_of}
use Rattle.refusal.proofs.Answers.{same_value, not_accepted}
use Rattle.rule.specs.declared.Figures.{Figures}
use Rattle.rule.specs.Body.{require, head, parts, formula, formula_at, whole, body}
use Rattle.rule.specs.Figures.{body_figures}
use Rattle.demand.specs.Contract.{state_at, step_of, batch_of, must, as_21, admit_lengths, StepPromise, BatchPromise}
use Rattle.demand.proofs.Admission.{step_admitted}
use Rattle.demand.proofs.Lines.{chain_low}
use Rattle.instances.specs.declared.stepping.StepCounts.{StepCounts}
use Rattle.instances.specs.declared.batch.BatchCounts.{BatchCounts}
use Rattle.instances.specs.Answers.{step_answer, batch_answer}
use Rattle.cell_runs.specs.Moves.{Stands}
use Rattle.instances.specs.Answers.{StepOf, BatchOf}
use Rattle.engine.specs.declared.state.State as code
use Rattle.engine.specs.States.{state_of, body_of, moved_code, by_value}

-- No body is no rule: 21, whatever else is brought.
no_rule : (L t h c n : ℕ) → admit_lengths [] L t h c n ≡ refused 21
unfolding admit_lengths must and_then as_21 body_figures body whole formula_at formula parts head require
no_rule L t h c n = go (leb L 4096)
  where
    go : (a : Bool) → must {A = Figures} a 21 (refused 21) ≡ refused 21
    go true = refl
    go false = refl

-- A refusal's number is all that is answered.
refused_as : (x : Refusal) → ◌≡◌ {A = Result (List ℕ) Refusal} (Err StateNotOpened) (Err x) → ◌≡◌ {A = Answer Figures} (refused 21) (refused (number_of x))
refused_as x e = ap (λ (r : Result (List ℕ) Refusal). refused (number (answer_of r))) e

module _ (s : code.State) where
  -- the body as it is read is the state's; a size above the room stands for an empty body
  pub body_is : (b : List ℕ) → body_of s ≡ Ok b → b ≡ (state_of s).body_bytes
  unfolding state_of body_of
  body_is b e = go (leb s.size 512) e
    where
      go : (room : Bool) → cond room (Ok (take s.size s.body)) (Err StateNotOpened) ≡ Ok b → b ≡ cond room (take s.size s.body) []
      go true i = sym (same_value (ap answer_of i))
      go false i = absurd (not_accepted (ap answer_of i))

  too_long : (x : Refusal) → body_of s ≡ Err x → (h c n : ℕ) → admit_lengths (state_of s).body_bytes s.opened s.next h c n ≡ refused (number_of x)
  unfolding state_of body_of
  too_long x e h c n = go (leb s.size 512) e
    where
      go : (room : Bool) → ◌≡◌ {A = Result (List ℕ) Refusal} (cond room (Ok (take s.size s.body)) (Err StateNotOpened)) (Err x)
          → admit_lengths (cond room (take s.size s.body) []) s.opened s.next h c n ≡ refused (number_of x)
      go true i = absurd (not_accepted (sym (ap answer_of i)))
      go false i = no_rule s.opened s.next h c n ∙ refused_as x i

-- ---- one flag byte

module _ (s : code.State) (flag : ℕ) (history cells report : List ℕ) where
  abbrev StepKept : Result StepCounts Refusal → code.State → List ℕ → List ℕ → List ℕ → Type 0
  StepKept a s' history' cells' report' =
      StepPromise Stands by_value s (step_of (step_answer (state_of s) a) flag history cells report history' cells' report') s'

  pub step_too_long : {x : Refusal} → body_of s ≡ Err x → StepKept (Err x) s history cells report
  unfolding state_of
  step_too_long {x} i = record { keeps = (too_long s x i (length history) (length cells) (length report), (refl, refl, refl)); left = refl; goes_on = refl }

  module _ (b : List ℕ) (body_told : body_of s ≡ Ok b) (a : Result StepCounts Refusal) (history' cells' report' : List ℕ) where
    abbrev TookStep : List ℕ → Result StepCounts Refusal → Type 0
    TookStep l a = StepOf l s.opened s.next flag history cells report a history' cells' report'

    module _ (p : TookStep b a) where
      owned : (a' : Result StepCounts Refusal) → a ≡ a' → TookStep (state_of s).body_bytes a'
      owned a' e = subst (λ (l : List ℕ). TookStep l a') (body_is s b body_told) (subst (TookStep b) e p)

      pub step_refused : {x : Refusal} → a ≡ Err x → StepKept (Err x) s history' cells' report'
      unfolding state_of
      step_refused {x} e = record { keeps = owned (Err x) e s.live; left = refl; goes_on = refl }

      module _ {counts : StepCounts} (e : a ≡ Ok counts) where
        took : TookStep (state_of s).body_bytes (Ok counts)
        took = owned (Ok counts) e

        pub tick_left : s.next + 1 ≤ 4611686018427387904
        tick_left =
            let known = step_admitted (state_of s).body_bytes s.opened s.next (length history) (length cells) (length report) (took 0).0 (took 0).1 in
            omega (arith, known.tick_left)

        pub step_taken : StepKept (Ok counts) (moved_code s (s.next + 1) counts.live) history' cells' report'
        unfolding state_of
        step_taken =
            let j : ◌≡◌ {A = code.State} (moved_code s (s.next + 1) counts.live) (moved_code s (suc s.next) counts.live) = ap (λ (t : ℕ). moved_code s t counts.live) (add-one s.next) in
            record { keeps = took s.live; left = j; goes_on = ap state_of j }

-- ---- many

module _ (s : code.State) (flags history cells report : List ℕ) where
  abbrev BatchKept : Result BatchCounts Refusal → code.State → List ℕ → List ℕ → List ℕ → Type 0
  BatchKept a s' history' cells' report' =
      BatchPromise Stands by_value s (batch_of (batch_answer (state_of s) a) flags history cells report history' cells' report') s'

  pub batch_too_long : {x : Refusal} → body_of s ≡ Err x → BatchKept (Err x) s history cells report
  unfolding state_of
  batch_too_long {x} i = record { keeps = (too_long s x i (length history) (length cells) 256, (refl, refl, refl)); left = refl; goes_on = refl }

  module _ (b : List ℕ) (body_told : body_of s ≡ Ok b) (a : Result BatchCounts Refusal) (history' cells' report' : List ℕ) where
    abbrev TookBatch : List ℕ → Result BatchCounts Refusal → Type 0
    TookBatch l a = BatchOf l s.opened s.next s.live flags history cells report a history' cells' report'

    module _ (p : TookBatch b a) where
      batch_owned : (a' : Result BatchCounts Refusal) → a ≡ a' → TookBatch (state_of s).body_bytes a'
      batch_owned a' e = subst (λ (l : List ℕ). TookBatch l a') (body_is s b body_told) (subst (TookBatch b) e p)

      pub batch_refused : {x : Refusal} → a ≡ Err x → BatchKept (Err x) s history' cells' report'
      unfolding state_of
      batch_refused {x} e = record { keeps = batch_owned (Err x) e; left = refl; goes_on = refl }

      module _ {counts : BatchCounts} (e : a ≡ Ok counts) where
        batch_took : TookBatch (state_of s).body_bytes (Ok counts)
        batch_took = batch_owned (Ok counts) e

        pub ticks_left : s.next + counts.taken ≤ 4611686018427387904
        ticks_left =
            let known = step_admitted (state_of s).body_bytes s.opened s.next (length history) (length cells) 256 batch_took.0 batch_took.1 in
            let low = chain_low Stands batch_took.0.delay flags report (state_at (state_of s).body_bytes s.opened s.next s.live) history cells (omega (arith, known.tick_left)) batch_took.2.chain in
            omega (arith, low)

        pub batch_taken : BatchKept (Ok counts) (moved_code s (s.next + counts.taken) counts.live) history' cells' report'
        unfolding state_of
        batch_taken = record { keeps = batch_took; left = refl; goes_on = refl }
