-- A list of calls, however states are carried, as the states themselves: single steps, refused batches and writings. A batch that was taken is its steps.
use Prim.Native.Nat.{ℕ, suc, ◌+◌, ◌%◌, ◌≤◌, ◌<◌}
use mathlib.Core.Path.{◌≡◌, refl, sym, ap, subst, ◌∙◌}
use mathlib.Core.Logic.{◌⊎◌, ◌≢◌}
use mathlib.Core.Bool.{Bool, true, false}
use mathlib.Core.List.{List, [], ◌∷◌, ◌++◌, append-nil}
use native.Mathlib.Omega.{arith}
use lib.Dec.{leb}
use lib.ListN.{length, get_or, take, drop, length-take, take-append-drop, drop_of_length-le}
use lib.Seq.{take_at, drop_at, take_all, length-take-le}
use borrow.Author.Tests.{leb-true, leb-false}
use Rattle.refusal.specs.Answer.{Answer, refused, accepted}
use Rattle.demand.proofs.Admission.{step_admitted}
use Rattle.demand.specs.Contract.{State, Step, Counts, Batch, state_after, state_after_batch, Invariant, Stepped, Chain, none, more, Batched, Carrier}
use Rattle.demand.specs.Demand.{Call, step, refused_batch, write, Refused, ticks_after, ticks_after_batch, with_steps, with_batch, Run, done, stepped, with_other_history, batched, batch_with_other_history, wrote}

pub data Line (Stands : Invariant) (h L : ℕ) : State → List ℕ → List ℕ → ℕ → List Call → Type 0 where
  end : {s : State} {table history : List ℕ} {t : ℕ} → Line Stands h L s table history t []
  own_history : {s : State} {table history : List ℕ} {t : ℕ} {calls : List Call} {k : Step} (n : ℕ)
      → k.history ≡ history → k.cells ≡ take n table → Stepped Stands s k k.answer
      → Line Stands h L (state_after s k.answer) (k.cells' ++ drop n table) k.history' (ticks_after t k.answer) calls
      → Line Stands h L s table history t (step k ∷ calls)
  other_history : {s : State} {table history : List ℕ} {t : ℕ} {calls : List Call} {k : Step} (n : ℕ)
      → (length k.history ≢ L) ⊎ Refused k.answer → k.cells ≡ take n table → Stepped Stands s k k.answer
      → Line Stands h L (state_after s k.answer) (k.cells' ++ drop n table) history (ticks_after t k.answer) calls
      → Line Stands h L s table history t (step k ∷ calls)
  turned_away : {s : State} {table history : List ℕ} {t : ℕ} {calls : List Call} {b : Batch} (m : ℕ)
      → b.answer ≡ refused m → Batched Stands s b (refused m)
      → Line Stands h L s table history t calls
      → Line Stands h L s table history t (refused_batch b ∷ calls)
  written : {s : State} {table history : List ℕ} {t : ℕ} {calls : List Call} {w : List ℕ}
      → length w ≡ length history → ((q : ℕ) → q < t → t ≤ q + h → get_or w (q % L) 0 ≡ get_or history (q % L) 0)
      → Line Stands h L s table w t calls
      → Line Stands h L s table history t (write w ∷ calls)

-- Cells, or records, that took the place of a list's first n.
module _ {A : Type 0} (n : ℕ) (table cells : List A) (same : length cells ≡ length (take n table)) where
  again : (b : Bool) → leb n (length table) ≡ b → (take n (cells ++ drop n table) ≡ cells) × (drop n (cells ++ drop n table) ≡ drop n table)
  again true e =
      let long : length cells ≡ n = same ∙ length-take-le n table (leb-true n (length table) e) in
      (take_at cells (drop n table) n long, drop_at cells (drop n table) n long)
  again false e =
      let short = leb-false n (length table) e in
      let l = length-take n table in
      let gone : drop n table ≡ [] = drop_of_length-le table {i = n} (omega arith) in
      let whole : cells ++ drop n table ≡ cells = ap (λ (l : List A). cells ++ l) gone ∙ append-nil cells in
      let few : length cells ≤ n = omega arith in
      (ap (take n) whole ∙ take_all n cells few, ap (drop n) whole ∙ drop_of_length-le cells {i = n} few ∙ sym gone)

  pub front_again : take n (cells ++ drop n table) ≡ cells
  front_again = (again (leb n (length table)) refl).0

  pub rest_again : drop n (cells ++ drop n table) ≡ drop n table
  rest_again = (again (leb n (length table)) refl).1

-- The steps of a chain keep the cells' length.
module _ (Stands : Invariant) (d : ℕ) (flags report : List ℕ) (s : State) (history cells : List ℕ) where
  pub chain_cells : {n : ℕ} {s' : State} {history' cells' words : List ℕ} → Chain Stands d flags report s history cells n s' history' cells' words
      → length cells' ≡ length cells
  chain_cells none = refl
  chain_cells (more {cells₁ = cells₁} {taken = a} k c below room flag_is own lent report_is e w) =
      let v : Stepped Stands _ k (accepted a) = subst (Stepped Stands _ k) e w in
      v.2.cells_length ∙ ap length lent ∙ chain_cells c

  -- Their tick numbers do not end before the last.
  pub chain_low : {n : ℕ} {s' : State} {history' cells' words : List ℕ} → s.next ≤ 4611686018427387904
      → Chain Stands d flags report s history cells n s' history' cells' words → s'.next ≤ 4611686018427387904
  chain_low i none = i
  chain_low i (more {state₁ = s₁} {taken = a} k c below room flag_is own lent report_is e w) =
      let v : Stepped Stands s₁ k (accepted a) = subst (Stepped Stands s₁ k) e w in
      let known = step_admitted s₁.body_bytes s₁.opened s₁.next (length k.history) (length k.cells) (length k.report) v.0 v.1 in
      let next : a.state.next ≡ suc s₁.next = ap (λ (x : State). x.next) v.2.state in
      omega (arith, known.tick_left, next)

module _ (Stands : Invariant) (h L : ℕ) where
  moved : {s s' : State} {table table' history history' : List ℕ} {t t' : ℕ} {calls : List Call} → s ≡ s' → table ≡ table' → history ≡ history' → t ≡ t'
      → Line Stands h L s table history t calls → Line Stands h L s' table' history' t' calls
  moved a b c e r = rw (← a, ← b, ← c, ← e) r

  -- The steps of a chain, and then the calls after it.
  module _ (table : List ℕ) (n t d : ℕ) (flags report : List ℕ) (s : State) (history cells : List ℕ) (lent : cells ≡ take n table) where
    chain_line : {m : ℕ} {s' : State} {history' cells' words : List ℕ} (c : Chain Stands d flags report s history cells m s' history' cells' words) {calls : List Call}
        → Line Stands h L s' (cells' ++ drop n table) history' (m + t) calls
        → Line Stands h L s table history t (with_steps c calls)
    chain_line none r = moved refl (ap (λ (l : List ℕ). l ++ drop n table) lent ∙ take-append-drop n table) refl (omega arith) r
    chain_line (more {count = m} {state₁ = s₁} {history₁ = history₁} {cells₁ = cells₁} {taken = a} k c below room flag_is own lent₁ report_is e w) {calls} r =
        let same : length cells₁ ≡ length (take n table) = chain_cells Stands d flags report s history cells c ∙ ap length lent in
        let one_more : suc m + t ≡ ticks_after (m + t) k.answer = let q : suc m + t ≡ suc (m + t) = omega arith in q ∙ sym (ap (ticks_after (m + t)) e) in
        let after : a.state ≡ state_after s₁ k.answer = sym (ap (state_after s₁) e) in
        chain_line c
        (own_history n own (lent₁ ∙ sym (front_again n table cells₁ same)) w
        (moved after (ap (λ (l : List ℕ). k.cells' ++ l) (sym (rest_again n table cells₁ same))) refl one_more r))

  -- A batch by its answer, and then the calls after it.
  batch_line : {s : State} {table history : List ℕ} {t : ℕ} {calls : List Call} (b : Batch) (n : ℕ) → b.history ≡ history → b.cells ≡ take n table
      → (a : Answer Counts) → b.answer ≡ a → (w : Batched Stands s b a)
      → Line Stands h L (state_after_batch s a) (b.cells' ++ drop n table) b.history' (ticks_after_batch t a) calls
      → Line Stands h L s table history t (with_batch Stands s b a w calls)
  batch_line {table = table} b n own lent (refused m) e w r =
      turned_away m e w
      (moved refl (ap (λ (l : List ℕ). l ++ drop n table) (w.1.1 ∙ lent) ∙ take-append-drop n table) (w.1.0 ∙ own) refl r)
  batch_line {s} {table} {history} {t} {calls} b n own lent (accepted c) e w r =
      moved refl refl own refl (chain_line table n t w.0.delay b.flags b.report s b.history b.cells lent w.2.chain r)

module _ (Stands : Invariant) (C : Carrier) (h L : ℕ) where
  pub as_line : {x : C.Carried} {table history : List ℕ} {t : ℕ} {calls : List Call} → Run Stands C h L x table history t calls
      → Line Stands h L (C.holds x) table history t calls
  as_line done = end
  as_line (stepped n own lent p r) = own_history n own lent p.keeps (moved Stands h L p.goes_on refl refl refl (as_line r))
  as_line (with_other_history n other lent p r) = other_history n other lent p.keeps (moved Stands h L p.goes_on refl refl refl (as_line r))
  as_line (batched {batch = b} n own lent p r) =
      batch_line Stands h L b n own lent b.answer refl p.keeps (moved Stands h L p.goes_on refl refl refl (as_line r))
  as_line (batch_with_other_history {carried = x} {batch = b} m e p r) =
      turned_away m e (subst (Batched Stands (C.holds x) b) e p.keeps) (moved Stands h L (p.goes_on ∙ ap (state_after_batch (C.holds x)) e) refl refl refl (as_line r))
  as_line (wrote long same r) = written long same (as_line r)
