-- Opening, step and batch with a calendar keep their promises, by those without one and what happened to the words.
use Prim.Native.Nat.{ℕ, zero, suc, ◌≤◌}
use Prim.{⊥}
use mathlib.Core.Path.{◌≡◌, refl, ap, ap₂, subst, ◌∙◌}
use mathlib.Core.List.{List, [], ◌∷◌}
use native.Mathlib.Omega.{arith}
use lib.ListN.{length, take}
use Rattle.refusal.specs.Answer.{Answer, refused, accepted, or_kept, answered}
use Rattle.refusal.proofs.Answers.{not_accepted, same_value}
use Rattle.sheet.specs.Sheet.{rule_body, body_part}
use Rattle.calendar.specs.Calendar.{cleared, marked, filled}
use Rattle.demand.specs.Contract.{State, Opening, Taken, Step, Counts, Batch, Invariant, Batched, Carrier, OpenedHolds, OpenPromise, StepPromise, BatchPromise}
use Rattle.demand.specs.CalendarDemand.{with_calendar}
use Rattle.engine.specs.States.{state_of}
use Rattle.state_bytes.specs.Numbers.{number_at}
use Rattle.state_bytes.specs.States.{loaded, state_in}
use Rattle.demand.proofs.CalendarTheorem.{chain_fits}

module _ (Stands : Invariant) (C : Carrier) (x y : C.Carried) (words words' : List ℕ) where
  -- The words after an answered opening, step or batch.
  abbrev pub WordsOpened : Answer State → Type 0
  WordsOpened answer = words' ≡ or_kept (λ state. cleared words) answer words

  abbrev pub WordsStepped : Answer Taken → ℕ → Type 0
  WordsStepped answer flag = words' ≡ or_kept (λ taken. marked words (C.holds x).next flag) answer words

  abbrev pub WordsBatched : Answer Counts → List ℕ → Type 0
  WordsBatched answer flags = words' ≡ or_kept (λ counts. filled words (C.holds x).next (take counts.taken flags)) answer words

  pub opening_kept : (opening : Opening) → OpenPromise Stands C x opening y → WordsOpened opening.answer → OpenPromise Stands (with_calendar C) (x, words) opening (y, words')
  opening_kept opening p w =
      record { keeps = p.keeps; left = both opening.answer p.left w; goes_on = holds opening.answer p.goes_on }
    where
      holds : (a : Answer State) → OpenedHolds C y a → OpenedHolds (with_calendar C) (y, words') a
      holds (refused n) g = tt
      holds (accepted s) g = g

      both : (a : Answer State) → y ≡ or_kept (λ state. C.fresh x (body_part (rule_body opening.sheet opening.rule)) (length opening.history)) a x → WordsOpened a
          → (y, words') ≡ or_kept (λ state. (with_calendar C).fresh (x, words) (body_part (rule_body opening.sheet opening.rule)) (length opening.history)) a (x, words)
      both (refused n) e i = ap₂ (λ (a : C.Carried) (b : List ℕ). (a, b)) e i
      both (accepted s) e i = ap₂ (λ (a : C.Carried) (b : List ℕ). (a, b)) e i

  pub step_kept : (made : Step) → StepPromise Stands C x made y → WordsStepped made.answer made.flag → StepPromise Stands (with_calendar C) (x, words) made (y, words')
  unfolding filled
  step_kept made p w = record { keeps = p.keeps; left = both made.answer p.left w; goes_on = p.goes_on }
    where
      both : (a : Answer Taken) → y ≡ or_kept (λ taken. C.moved x (made.flag ∷ []) (suc (C.holds x).next) taken.live_count) a x → WordsStepped a made.flag
          → (y, words') ≡ or_kept (λ taken. (with_calendar C).moved (x, words) (made.flag ∷ []) (suc (C.holds x).next) taken.live_count) a (x, words)
      both (refused n) e i = ap₂ (λ (a : C.Carried) (b : List ℕ). (a, b)) e i
      both (accepted t) e i = ap₂ (λ (a : C.Carried) (b : List ℕ). (a, b)) e i

  pub batch_kept : (batch : Batch) → BatchPromise Stands C x batch y → WordsBatched batch.answer batch.flags
      → BatchPromise Stands (with_calendar C) (x, words) batch (y, words')
  batch_kept batch p w = record { keeps = p.keeps; left = both batch.answer p.left w; goes_on = p.goes_on }
    where
      both : (a : Answer Counts) → y ≡ or_kept (λ counts. C.moved x (take counts.taken batch.flags) counts.state.next counts.state.live_count) a x
          → WordsBatched a batch.flags
          → (y, words') ≡ or_kept (λ counts. (with_calendar C).moved (x, words) (take counts.taken batch.flags) counts.state.next counts.state.live_count) a (x, words)
      both (refused n) e i = ap₂ (λ (a : C.Carried) (b : List ℕ). (a, b)) e i
      both (accepted c) e i = ap₂ (λ (a : C.Carried) (b : List ℕ). (a, b)) e i

-- What a call leaves, by C's number: something new where it is 0, else what was there.
module _ {A X : Type 0} (part : A → X) (value : A) (old new : X) where
  pub changed : (number : ℕ) → number ≡ 0 → new ≡ part value → new ≡ or_kept part (answered number value) old
  changed zero e i = i
  changed (suc n) e i = absurd (omega arith)

  pub unchanged : (number : ℕ) → (number ≡ 0 → ⊥) → new ≡ old → new ≡ or_kept part (answered number value) old
  unchanged zero e i = absurd (e refl)
  unchanged (suc n) e i = i

-- A batch that was not refused took no more flags than there were.
pub no_more : (Stands : Invariant) (C : Carrier) {x y : C.Carried} {batch : Batch} → BatchPromise Stands C x batch y → (number : ℕ) (counts : Counts)
    → batch.answer ≡ answered number counts → number ≡ 0 → counts.taken ≤ length batch.flags
no_more Stands C {x} {y} {batch} p number counts e zero_is = go batch.answer (e ∙ ap (λ (n : ℕ). answered n counts) zero_is) p.keeps
  where
    go : (a : Answer Counts) → a ≡ accepted counts → Batched Stands (C.holds x) batch a → counts.taken ≤ length batch.flags
    go (refused n) i w = absurd (not_accepted i)
    go (accepted c) i w =
        subst (λ (z : Counts). z.taken ≤ length batch.flags) (same_value i)
        (chain_fits Stands w.0.delay batch.flags batch.report (C.holds x) batch.history batch.cells w.2.chain)

-- The tick that is marked is the next one of the state in bytes.
module _ (bytes words words' : List ℕ) (tick : ℕ) (at : tick ≡ number_at bytes 528) where
  pub marked_at : (flag : ℕ) → words' ≡ marked words tick flag → words' ≡ marked words (state_in bytes).next flag
  unfolding state_in state_of loaded
  marked_at flag e = e ∙ ap (λ (t : ℕ). marked words t flag) at

  pub filled_at : (flags : List ℕ) → words' ≡ filled words tick flags → words' ≡ filled words (state_in bytes).next flags
  unfolding state_in state_of loaded
  filled_at flags e = e ∙ ap (λ (t : ℕ). filled words t flags) at
