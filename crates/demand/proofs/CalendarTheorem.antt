-- The words of a calendar that is kept beside the stream agree with it, for every engine whose opening, step and batch keep their promises.
use Prim.Native.Nat.{ℕ, suc, ◌+◌, ◌*◌, ◌/◌, ◌≤◌, ◌<◌}
use mathlib.Core.Path.{◌≡◌, refl, sym, ap, subst, ◌∙◌}
use mathlib.Core.Bool.{false}
use mathlib.Core.List.{List, [], ◌∷◌, ◌++◌, append_assoc}
use native.Mathlib.Nat.{zero-add}
use native.Mathlib.Numerals.{one-add}
use native.Mathlib.Omega.{arith}
use lib.ListN.{length, get_or, take, drop, length-append, get_or-eq_default}
use lib.Seq.{take-suc, take_at, length-take-le, get_or-take}
use Rattle.refusal.specs.Answer.{Answer, refused, accepted, or_kept}
use Rattle.refusal.proofs.Answers.{not_accepted}
use Rattle.sheet.specs.Sheet.{rule_body, body_part}
use Rattle.rule.specs.Meaning.{up}
use Rattle.calendar.specs.Calendar.{kept, up_at, cleared, filled}
use Rattle.calendar.proofs.Stream.{agrees, filled_append, length_filled, length_cleared, rest_filled, rest_cleared, up_zero}
use Rattle.calendar.proofs.Agreement.{ups_agrees, first_agrees, last_agrees, nearest_agrees}
use Rattle.demand.specs.Contract.{State, Taken, Step, Counts, Batch, state_after, state_after_batch, Invariant, Opened, Stepped, Chain, none, more, Batched, Carrier, StepPromise, OpenedHolds}
use Rattle.demand.specs.Demand.{Call, step, ticks_after, ticks_after_batch, added, stream, with_steps, with_batch, Run, done, stepped, with_other_history, batched, batch_with_other_history, wrote}
use Rattle.demand.specs.CalendarDemand.{with_calendar, Throughout, Agrees, CalendarKept}

-- ---- what a call adds to the stream, and by how much the next tick grows

-- The flags that an answered step, or batch, took.
abbrev flags_of : Answer Taken → ℕ → List ℕ
flags_of answer flag = or_kept (λ taken. flag ∷ []) answer []

abbrev batch_flags : Answer Counts → List ℕ → List ℕ
batch_flags answer flags = or_kept (λ counts. take counts.taken flags) answer []

stream_step : (a : Answer Taken) (flag : ℕ) (rest : List ℕ) → added a flag rest ≡ flags_of a flag ++ rest
stream_step (refused n) flag rest = refl
stream_step (accepted x) flag rest = refl

module _ (Stands : Invariant) (d : ℕ) (flags report : List ℕ) (s : State) (history cells : List ℕ) where
  chain_stream : {n : ℕ} {s' : State} {history' cells' words : List ℕ} (c : Chain Stands d flags report s history cells n s' history' cells' words)
      (calls : List Call) → stream (with_steps c calls) ≡ take n flags ++ stream calls
  chain_stream none calls = refl
  chain_stream (more {count = n} {taken = x} k c below room flag_is own lent report_is e w) calls =
      chain_stream c (step k ∷ calls)
      ∙ ap (λ (a : Answer Taken). take n flags ++ added a k.flag (stream calls)) e
      ∙ ap (λ (b : ℕ). take n flags ++ (b ∷ stream calls)) flag_is
      ∙ sym (append_assoc (take n flags) (get_or flags n 0 ∷ []) (stream calls))
      ∙ ap (λ (l : List ℕ). l ++ stream calls) (sym (take-suc flags n 0 below))

  chain_next : {n : ℕ} {s' : State} {history' cells' words : List ℕ} → Chain Stands d flags report s history cells n s' history' cells' words
      → (s'.next ≡ n + s.next) × (length (take n flags) ≡ n)
  chain_next none = (sym (zero-add s.next), refl)
  chain_next (more {count = n} {state₁ = s₁} {taken = a} k c below room flag_is own lent report_is e w) =
      let v : Stepped Stands s₁ k (accepted a) = subst (Stepped Stands s₁ k) e w in
      let next : a.state.next ≡ suc s₁.next = ap (λ (x : State). x.next) v.2.state in
      let before = (chain_next c).0 in
      (omega arith, length-take-le (suc n) flags below)

  pub chain_fits : {n : ℕ} {s' : State} {history' cells' words : List ℕ} → Chain Stands d flags report s history cells n s' history' cells' words
      → n ≤ length flags
  chain_fits none = omega arith
  chain_fits (more k c below room flag_is own lent report_is e w) = below

module _ (Stands : Invariant) where
  step_next : (s : State) (k : Step) (a : Answer Taken) → Stepped Stands s k a
      → ((state_after s a).next ≡ length (flags_of a k.flag) + s.next) × ((t : ℕ) → ticks_after t a ≡ length (flags_of a k.flag) + t)
  step_next s k (refused n) w = (sym (zero-add s.next), λ t. sym (zero-add t))
  step_next s k (accepted x) w = (ap (λ (y : State). y.next) w.2.state ∙ sym (one-add s.next), λ t. sym (one-add t))

  batch_next : (s : State) (b : Batch) (a : Answer Counts) → Batched Stands s b a
      → ((state_after_batch s a).next ≡ length (batch_flags a b.flags) + s.next) × ((t : ℕ) → ticks_after_batch t a ≡ length (batch_flags a b.flags) + t)
  batch_next s b (refused n) w = (sym (zero-add s.next), λ t. sym (zero-add t))
  batch_next s b (accepted c) w =
      let n = chain_next Stands w.0.delay b.flags b.report s b.history b.cells w.2.chain in
      (n.0 ∙ ap (λ (m : ℕ). m + s.next) (sym n.1), λ t. ap (λ (m : ℕ). m + t) (sym n.1))

  batch_stream : (s : State) (b : Batch) (a : Answer Counts) (w : Batched Stands s b a) (calls : List Call)
      → stream (with_batch Stands s b a w calls) ≡ batch_flags a b.flags ++ stream calls
  batch_stream s b (refused n) w calls = refl
  batch_stream s b (accepted c) w calls = chain_stream Stands w.0.delay b.flags b.report s b.history b.cells w.2.chain calls

-- ---- what holds of the words at one point of the list

module _ (lent bytes : List ℕ) where
  -- `before` is the stream up to here, and `rest` what is still to come.
  agrees_with : (before rest words : List ℕ) → before ++ rest ≡ bytes → words ≡ filled (cleared lent) 0 before → Agrees lent bytes words (length before)
  agrees_with before rest words e w =
      record {
        words_are = w ∙ ap (filled (cleared lent) 0) taken;
        as_many = ap length w ∙ length_filled (cleared lent) 0 before ∙ length_cleared lent;
        last_group = rw w (last before);
        taken_ticks = λ k q i j l. at k q i j ∙ ap (λ (b : ℕ). up k b) (ap (λ (l : List ℕ). get_or l q 0) taken ∙ get_or-take (length before) bytes q 0 l);
        other_ticks = λ k q i j l. at k q i j ∙ past k q l;
        ups_are = λ k first last i. rw (w, ← taken) (ups_agrees lent before k i first last);
        first-is = λ k first last i. rw (w, ← taken) (first_agrees lent before k i first last);
        last_is = λ k first last i. rw (w, ← taken) (last_agrees lent before k i first last);
        nearest_is = λ k p i. rw (w, ← taken) (nearest_agrees lent before k i p);
      }
    where
      taken : before ≡ take (length before) bytes
      taken = sym (ap (take (length before)) (sym e) ∙ take_at before rest (length before) refl)

      at : (k q : ℕ) → k < 8 → q < kept lent → up_at words k q ≡ up k (get_or before q 0)
      at k q i j = ap (λ (l : List ℕ). up_at l k q) w ∙ agrees lent before k q i j

      past : (k q : ℕ) → length before ≤ q → up k (get_or before q 0) ≡ false
      past k q l = ap (up k) (get_or-eq_default before 0 l) ∙ up_zero k

      last : (before : List ℕ) → drop (8 * (length lent / 8)) (filled (cleared lent) 0 before) ≡ drop (8 * (length lent / 8)) lent
      last before =
          ap (λ (n : ℕ). drop (8 * (n / 8)) (filled (cleared lent) 0 before)) (sym (length_cleared lent)) ∙ rest_filled (cleared lent) 0 before
          ∙ ap (λ (n : ℕ). drop (8 * (n / 8)) (cleared lent)) (length_cleared lent) ∙ rest_cleared lent

-- ---- all along the list

module _ (Stands : Invariant) (C : Carrier) (h L : ℕ) (lent bytes : List ℕ) where
  abbrev K : Carrier
  K = with_calendar C

  -- What is carried here is what the first t ticks of the stream left; `rest` is still to come.
  record Here (x : K.Carried) (t : ℕ) (rest : List ℕ) : Type 0 where
    before : List ℕ
    so_far : length before ≡ t
    whole : before ++ rest ≡ bytes
    next-is : (K.holds x).next ≡ t
    words_are : x.1 ≡ filled (cleared lent) 0 before

  here_agrees : {x : K.Carried} {t : ℕ} {rest : List ℕ} → Here x t rest → Agrees lent bytes x.1 t
  here_agrees {x} {t} {rest} w = subst (Agrees lent bytes x.1) w.so_far (agrees_with lent bytes w.before rest x.1 w.whole w.words_are)

  -- A call that took these flags: the words got them, and the next tick grew by as many.
  onward : {x y : K.Carried} {t u : ℕ} {rest rest' : List ℕ} (flags : List ℕ) → Here x t rest → rest ≡ flags ++ rest'
      → (K.holds y).next ≡ length flags + (K.holds x).next → u ≡ length flags + t → y.1 ≡ filled x.1 (K.holds x).next flags → Here y u rest'
  onward {x} {y} {t} {u} {rest} {rest'} flags w split next ticks words =
      record {
        before = w.before ++ flags;
        so_far = length-append w.before flags ∙ omega (arith, w.so_far, ticks);
        whole = append_assoc w.before flags rest' ∙ ap (λ (l : List ℕ). w.before ++ l) (sym split) ∙ w.whole;
        next-is = omega (arith, next, ticks, w.next-is);
        words_are = words ∙ ap (λ (l : List ℕ). filled l (K.holds x).next flags) w.words_are
            ∙ ap (λ (n : ℕ). filled (filled (cleared lent) 0 w.before) n flags) (w.next-is ∙ sym w.so_far ∙ sym (zero-add (length w.before)))
            ∙ sym (filled_append (cleared lent) 0 w.before flags);
      }

  -- What the promises say of the words.
  step_words : (x y : K.Carried) (k : Step) (a : Answer Taken)
      → y ≡ or_kept (λ taken. K.moved x (k.flag ∷ []) (suc (K.holds x).next) taken.live_count) a x
      → y.1 ≡ filled x.1 (K.holds x).next (flags_of a k.flag)
  unfolding filled
  step_words x y k (refused n) e = ap (λ (z : K.Carried). z.1) e
  step_words x y k (accepted a) e = ap (λ (z : K.Carried). z.1) e

  batch_words : (x y : K.Carried) (b : Batch) (a : Answer Counts)
      → y ≡ or_kept (λ counts. K.moved x (take counts.taken b.flags) counts.state.next counts.state.live_count) a x
      → y.1 ≡ filled x.1 (K.holds x).next (batch_flags a b.flags)
  unfolding filled
  batch_words x y b (refused n) e = ap (λ (z : K.Carried). z.1) e
  batch_words x y b (accepted c) e = ap (λ (z : K.Carried). z.1) e

  after_step : (x y : K.Carried) {t : ℕ} (rest : List ℕ) (k : Step) → Here x t (added k.answer k.flag rest) → StepPromise Stands K x k y
      → Here y (ticks_after t k.answer) rest
  after_step x y {t} rest k w p =
      let n = step_next Stands (K.holds x) k k.answer p.keeps in
      onward (flags_of k.answer k.flag) w (stream_step k.answer k.flag rest) (ap (λ (s : State). s.next) p.goes_on ∙ n.0) (n.1 t)
      (step_words x y k k.answer p.left)

  throughout : {x : K.Carried} {table history : List ℕ} {t : ℕ} {calls : List Call} (r : Run Stands K h L x table history t calls)
      → Here x t (stream calls) → Throughout (λ both ticks. Agrees lent bytes both.1 ticks) r
  throughout done w = here_agrees w
  throughout (stepped {carried = x} {carried' = y} {calls = calls} {made = k} n own taken p r) w =
      (here_agrees w, throughout r (after_step x y (stream calls) k w p))
  throughout (with_other_history {carried = x} {carried' = y} {calls = calls} {made = k} n other taken p r) w =
      (here_agrees w, throughout r (after_step x y (stream calls) k w p))
  throughout (batched {carried = x} {carried' = y} {t = t} {calls = calls} {batch = b} n own taken p r) w =
      let m = batch_next Stands (K.holds x) b b.answer p.keeps in (
        here_agrees w,
        throughout r
            (onward (batch_flags b.answer b.flags) w (batch_stream Stands (K.holds x) b b.answer p.keeps calls)
            (ap (λ (s : State). s.next) p.goes_on ∙ m.0) (m.1 t) (batch_words x y b b.answer p.left)),
      )
  throughout (batch_with_other_history {carried = x} {carried' = y} {t = t} {calls = calls} {batch = b} n e p r) w =
      let same : y ≡ x = p.left ∙ ap (λ (a : Answer Counts). or_kept (λ counts. K.moved x (take counts.taken b.flags) counts.state.next counts.state.live_count) a x) e in
      (here_agrees w, throughout r (subst (λ (z : K.Carried). Here z t (stream calls)) (sym same) w))
  throughout (wrote as_long same r) w = (here_agrees w, throughout r w)

-- An accepted opening zeroed the words, and its next tick is 0.
pub calendar_kept : (Stands : Invariant) (carrier : Carrier) → CalendarKept Stands carrier
unfolding filled
calendar_kept Stands C before after opening promise state answered h calls run =
    throughout Stands C h (length opening.history) before.1 (stream calls) run
    (record { before = []; so_far = refl; whole = refl; next-is = next opening.answer answered promise.keeps promise.goes_on; words_are = words opening.answer answered promise.left })
  where
    next : (a : Answer State) → a ≡ accepted state → Opened Stands opening a → OpenedHolds (with_calendar C) after a → (C.holds after.0).next ≡ 0
    next (refused n) e w g = absurd (not_accepted e)
    next (accepted s) e w g = ap (λ (y : State). y.next) (g ∙ w.4.state)

    words : (a : Answer State) → a ≡ accepted state
        → after ≡ or_kept (λ (s : State). (with_calendar C).fresh before (body_part (rule_body opening.sheet opening.rule)) (length opening.history)) a before
        → after.1 ≡ filled (cleared before.1) 0 []
    words (refused n) e l = absurd (not_accepted e)
    words (accepted s) e l = ap (λ (z : (with_calendar C).Carried). z.1) l
