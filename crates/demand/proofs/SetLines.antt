-- A list of calls of a set as single steps, refused batches and writings. A batch that was taken is its steps.
use Prim.Native.Nat.{ℕ, suc, ◌+◌, ◌%◌, ◌≤◌, ◌<◌}
use mathlib.Core.Path.{◌≡◌, refl, sym, ap, subst, ◌∙◌}
use mathlib.Core.Logic.{◌⊎◌, ◌≢◌}
use mathlib.Core.List.{List, [], ◌∷◌, ◌++◌}
use native.Mathlib.Omega.{arith}
use lib.ListN.{length, get_or, take, drop, length-append, length-drop, take-append-drop}
use Rattle.refusal.specs.Answer.{Answer, refused, accepted}
use Rattle.sheet.specs.Sheet.{rule_count}
use Rattle.demand.specs.declared.Running.{Running}
use Rattle.demand.specs.Contract.{Invariant}
use Rattle.demand.specs.SetContract.{SetStep, SetCounts, SetBatch, all_delays, SetStepped, SetChain, none, more, SetBatched}
use Rattle.demand.specs.SetDemand.{SetCall, set_step, refused_set_batch, set_write, SetRefused, set_ticks_after, set_ticks_after_batch, with_set_steps, with_set_batch, SetRun, done, stepped, with_other_history, batched, batch_with_other_history, wrote}
use Rattle.demand.proofs.Lines.{front_again, rest_again}
use Rattle.demand.proofs.SetAdmission.{set_step_admitted}

pub data SetLine (Stands : Invariant) (h L : ℕ) (sheet : List ℕ) : List Running → List ℕ → List ℕ → ℕ → List SetCall → Type 0 where
  end : {records : List Running} {table history : List ℕ} {t : ℕ} → SetLine Stands h L sheet records table history t []
  own_history : {records : List Running} {table history : List ℕ} {t : ℕ} {calls : List SetCall} {k : SetStep} (m n : ℕ)
      → k.sheet ≡ sheet → k.records ≡ take m records → k.history ≡ history → k.cells ≡ take n table → SetStepped Stands k k.answer
      → SetLine Stands h L sheet (k.records' ++ drop m records) (k.cells' ++ drop n table) k.history' (set_ticks_after t k.answer) calls
      → SetLine Stands h L sheet records table history t (set_step k ∷ calls)
  other_history : {records : List Running} {table history : List ℕ} {t : ℕ} {calls : List SetCall} {k : SetStep} (m n : ℕ)
      → k.sheet ≡ sheet → k.records ≡ take m records → (length k.history ≢ L) ⊎ SetRefused k.answer → k.cells ≡ take n table → SetStepped Stands k k.answer
      → SetLine Stands h L sheet (k.records' ++ drop m records) (k.cells' ++ drop n table) history (set_ticks_after t k.answer) calls
      → SetLine Stands h L sheet records table history t (set_step k ∷ calls)
  turned_away : {records : List Running} {table history : List ℕ} {t : ℕ} {calls : List SetCall} {b : SetBatch} (m number : ℕ)
      → b.sheet ≡ sheet → b.records ≡ take m records → b.answer ≡ refused number → SetBatched Stands b (refused number)
      → SetLine Stands h L sheet records table history t calls
      → SetLine Stands h L sheet records table history t (refused_set_batch b ∷ calls)
  written : {records : List Running} {table history : List ℕ} {t : ℕ} {calls : List SetCall} {w : List ℕ}
      → length w ≡ length history → ((q : ℕ) → q < t → t ≤ q + h → get_or w (q % L) 0 ≡ get_or history (q % L) 0)
      → SetLine Stands h L sheet records table w t calls
      → SetLine Stands h L sheet records table history t (set_write w ∷ calls)

-- The steps of a chain keep the lengths of cells and records.
module _ (Stands : Invariant) (d : ℕ) (sheet flags report : List ℕ) (records : List Running) (history cells : List ℕ) where
  pub chain_lengths : {n : ℕ} {records' : List Running} {history' cells' words : List ℕ}
      → SetChain Stands d sheet flags report records history cells n records' history' cells' words
      → (length cells' ≡ length cells) × (length records' ≡ length records)
  chain_lengths none = (refl, refl)
  chain_lengths (more {taken = a} k c below room sheet_is records_are flag_is own lent report_is e w) =
      let v : SetStepped Stands k (accepted a) = subst (SetStepped Stands k) e w in
      let known = set_step_admitted k.sheet k.records (length k.history) (length k.cells) (length k.report) v.0 v.1 in
      let rest = drop (rule_count k.sheet) k.records in
      let before = chain_lengths c in
      let same : length k.records' ≡ length k.records =
      omega (
        arith,
        ap length v.2.records_are,
        length-append a.running rest,
        length-drop (rule_count k.sheet) k.records,
        v.2.as_many,
        known.records_fit,
      ) in
      (v.2.cells_length ∙ ap length lent ∙ before.0, same ∙ ap length records_are ∙ before.1)

module _ (Stands : Invariant) (h L : ℕ) (sheet : List ℕ) where
  moved : {records records' : List Running} {table table' history history' : List ℕ} {t t' : ℕ} {calls : List SetCall}
      → records ≡ records' → table ≡ table' → history ≡ history' → t ≡ t'
      → SetLine Stands h L sheet records table history t calls → SetLine Stands h L sheet records' table' history' t' calls
  moved a b c e r = rw (← a, ← b, ← c, ← e) r

  -- The steps of a chain, and then the calls after it.
  module _ (all_records : List Running) (table : List ℕ) (m n t d : ℕ) (sheet₁ flags report : List ℕ) (records : List Running) (history cells : List ℕ)
      (same_sheet : sheet₁ ≡ sheet) (records_lent : records ≡ take m all_records) (lent : cells ≡ take n table) where
    chain_line : {count : ℕ} {records' : List Running} {history' cells' words : List ℕ}
        (c : SetChain Stands d sheet₁ flags report records history cells count records' history' cells' words) {calls : List SetCall}
        → SetLine Stands h L sheet (records' ++ drop m all_records) (cells' ++ drop n table) history' (count + t) calls
        → SetLine Stands h L sheet all_records table history t (with_set_steps c calls)
    chain_line none r =
        moved (ap (λ (l : List Running). l ++ drop m all_records) records_lent ∙ take-append-drop m all_records)
        (ap (λ (l : List ℕ). l ++ drop n table) lent ∙ take-append-drop n table) refl (omega arith) r
    chain_line (more {count = count} {records₁ = records₁} {history₁ = history₁} {cells₁ = cells₁} {taken = a} k c below room sheet_is records_are flag_is own lent₁ report_is e w) {calls} r =
        let lengths = chain_lengths Stands d sheet₁ flags report records history cells c in
        let same : length cells₁ ≡ length (take n table) = lengths.0 ∙ ap length lent in
        let same_records : length records₁ ≡ length (take m all_records) = lengths.1 ∙ ap length records_lent in
        let one_more : suc count + t ≡ set_ticks_after (count + t) k.answer =
        let q : suc count + t ≡ suc (count + t) = omega arith in q ∙ sym (ap (set_ticks_after (count + t)) e) in
        chain_line c
        (own_history m n (sheet_is ∙ same_sheet) (records_are ∙ sym (front_again m all_records records₁ same_records)) own (lent₁ ∙ sym (front_again n table cells₁ same)) w
        (moved (ap (λ (l : List Running). k.records' ++ l) (sym (rest_again m all_records records₁ same_records)))
        (ap (λ (l : List ℕ). k.cells' ++ l) (sym (rest_again n table cells₁ same))) refl one_more r))

  -- A batch by its answer, and then the calls after it.
  batch_line : {records : List Running} {table history : List ℕ} {t : ℕ} {calls : List SetCall} (b : SetBatch) (m n : ℕ)
      → b.sheet ≡ sheet → b.records ≡ take m records → b.history ≡ history → b.cells ≡ take n table
      → (a : Answer SetCounts) → b.answer ≡ a → (w : SetBatched Stands b a)
      → SetLine Stands h L sheet (b.records' ++ drop m records) (b.cells' ++ drop n table) b.history' (set_ticks_after_batch t a) calls
      → SetLine Stands h L sheet records table history t (with_set_batch Stands b a w calls)
  batch_line {records} {table} b m n sheet_is records_are own lent (refused number) e w r =
      turned_away m number sheet_is records_are e w
      (moved (ap (λ (l : List Running). l ++ drop m records) (w.1.0 ∙ records_are) ∙ take-append-drop m records)
      (ap (λ (l : List ℕ). l ++ drop n table) (w.1.1.1.0 ∙ lent) ∙ take-append-drop n table) (w.1.1.0 ∙ own) refl r)
  batch_line {records} {table} {history} {t} {calls} b m n sheet_is records_are own lent (accepted c) e w r =
      moved refl refl own refl
      (chain_line records table m n t (all_delays w.0) b.sheet b.flags b.report b.records b.history b.cells sheet_is records_are lent w.2.chain r)

  pub as_set_line : {records : List Running} {table history : List ℕ} {t : ℕ} {calls : List SetCall} → SetRun Stands h L sheet records table history t calls
      → SetLine Stands h L sheet records table history t calls
  as_set_line done = end
  as_set_line (stepped m n sheet_is records_are own lent w r) = own_history m n sheet_is records_are own lent w (as_set_line r)
  as_set_line (with_other_history m n sheet_is records_are other lent w r) = other_history m n sheet_is records_are other lent w (as_set_line r)
  as_set_line (batched b m n sheet_is records_are own lent w r) = batch_line b m n sheet_is records_are own lent b.answer refl w (as_set_line r)
  as_set_line (batch_with_other_history {batch = b} m number sheet_is records_are e w r) =
      turned_away m number sheet_is records_are e (subst (SetBatched Stands b) e w) (as_set_line r)
  as_set_line (wrote long same r) = written long same (as_set_line r)
