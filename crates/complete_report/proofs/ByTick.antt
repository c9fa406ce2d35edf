-- The report by step is the violations by tick, put into order.
use Prim.Native.Nat.{ℕ, zero, suc, ◌+◌, ◌-◌, ◌≤◌, ◌<◌}
use mathlib.Core.Path.{◌≡◌, refl, sym, ap, ◌∙◌, subst}
use mathlib.Core.Bool.{Bool, true, false, cond, ◌&&◌}
use mathlib.Core.List.{List, [], ◌∷◌, ◌++◌, map}
use native.Mathlib.Omega.{arith}
use lib.Dec.{leb, ltb, eqb}
use lib.ListN.{length}
use borrow.Author.Tests.{eqb-true, eqb-false, eq-eqb, ne_eqb, ltb-true, ltb-false, lt-ltb, le-ltb, le-leb}
use Rattle.refusal.specs.Answer.{refused, accepted}
use Rattle.rule.specs.declared.Verdict.TheVariants.{True, False}
use Rattle.rule.specs.declared.Outcome.{Outcome}
use Rattle.rule.specs.declared.Outcome.TheVariants.{Decided, Open}
use Rattle.rule.specs.Formula.{Formula}
use Rattle.rule.specs.Meaning.{rule}
use Rattle.rule.specs.Recording.{recorded, over_recording}
use Rattle.rule.specs.Steps.{false_at, passing}
use Rattle.complete_report.specs.declared.Violation.{Violation}
use Rattle.complete_report.specs.Report.{violation, by_step, complete}
use Rattle.complete_report.specs.Order.{before, insert, in_order}
use Rattle.complete_report.specs.FalseSteps.{step_if_false, answered_step, false_step, by_tick}
use Rattle.complete_report.proofs.Orders.{less, is_before, not_before}

-- ---- where a violation is put in

-- The first entry does not come before v.
abbrev pub Follows : Violation → List Violation → Type 0
Follows v [] = Unit {0}
Follows v (w ∷ list) = before w v ≡ false

pub insert_first : (v : Violation) (list : List Violation) → Follows v list → insert v list ≡ v ∷ list
unfolding insert
insert_first v [] h = refl
insert_first v (w ∷ list) h = rw h

-- Entries with an earlier step stay in front.
pub insert_past : (v : Violation) (d : ℕ) (ticks : List ℕ) (list : List Violation) → d < v.step
    → insert v (map (violation d) ticks ++ list) ≡ map (violation d) ticks ++ insert v list
unfolding insert
insert_past v d [] list h = refl
insert_past v d (q ∷ ticks) list h =
    rw (is_before (violation d q) v (omega arith, λ k. absurd (omega arith)), insert_past v d ticks list h)

-- ---- one tick more in front

module _ (outcomes : ℕ → Outcome) where
  -- A tick that is not false at these steps.
  pub tick_other : (count p steps d : ℕ) → ((e : ℕ) → d ≤ e → e < d + steps → false_at e (outcomes p) ≡ false)
      → by_step outcomes (suc count) p steps d ≡ by_step outcomes count (suc p) steps d
  unfolding by_step passing
  tick_other count p zero d h = refl
  tick_other count p (suc steps) d h =
      rw (h d (omega arith) (omega arith), tick_other count p steps (suc d) (λ e i j. h e (omega arith) (omega arith)))

  follows_group : (v : Violation) (d count q : ℕ) (list : List Violation) → v.step ≤ d → v.tick ≤ q → Follows v list
      → Follows v (map (violation d) (passing (false_at d) outcomes count q) ++ list)
  unfolding passing
  follows_group v d zero q list i j k = k
  follows_group v d (suc count) q list i j k =
      go (false_at d (outcomes q)) (follows_group v d count (suc q) list i (omega arith) k)
    where
      go : (b : Bool) → Follows v (map (violation d) (passing (false_at d) outcomes count (suc q)) ++ list)
          → Follows v (map (violation d) (cond b (q ∷ passing (false_at d) outcomes count (suc q)) (passing (false_at d) outcomes count (suc q))) ++ list)
      go true next = not_before (violation d q) v (i, λ l. j)
      go false next = next

  follows_steps : (v : Violation) (count q steps d : ℕ) → v.step ≤ d → v.tick ≤ q → Follows v (by_step outcomes count q steps d)
  unfolding by_step
  follows_steps v count q zero d i j = tt
  follows_steps v count q (suc steps) d i j =
      follows_group v d count q (by_step outcomes count q steps (suc d)) i j (follows_steps v count q steps (suc d) (omega arith) j)

  false_not : (p e d : ℕ) → outcomes p ≡ Decided False e → (e ≡ d → ⊥) → false_at d (outcomes p) ≡ false
  unfolding false_at
  false_not p e d o h = rw o (ne_eqb e d h)

  false_here : (p e : ℕ) → outcomes p ≡ Decided False e → false_at e (outcomes p) ≡ true
  unfolding false_at
  false_here p e o = rw o (eq-eqb e e refl)

  -- A tick that is false at one of these steps.
  pub tick_false : (count p e : ℕ) → outcomes p ≡ Decided False e → (steps d : ℕ) → d ≤ e → e < d + steps
      → by_step outcomes (suc count) p steps d ≡ insert (violation e p) (by_step outcomes count (suc p) steps d)
  unfolding by_step passing
  tick_false count p e o zero d i j = absurd (omega arith)
  tick_false count p e o (suc steps) d i j = go (eqb e d) refl (λ k. tick_false count p e o steps (suc d) k (omega arith))
    where
      at_step : by_step outcomes (suc count) p (suc steps) e ≡ insert (violation e p) (by_step outcomes count (suc p) (suc steps) e)
      at_step =
          rw (false_here p e o, tick_other count p steps (suc e) (λ c x y. false_not p e c o (λ z. omega arith)))
          (sym (insert_first (violation e p) (by_step outcomes count (suc p) (suc steps) e) (follows_steps (violation e p) count (suc p) (suc steps) e (omega arith) (omega arith))))

      here : e ≡ d → by_step outcomes (suc count) p (suc steps) d ≡ insert (violation e p) (by_step outcomes count (suc p) (suc steps) d)
      here q =
          subst (λ (x : ℕ). by_step outcomes (suc count) p (suc steps) x ≡ insert (violation e p) (by_step outcomes count (suc p) (suc steps) x)) q at_step

      go : (b : Bool) → eqb e d ≡ b
          → (suc d ≤ e → by_step outcomes (suc count) p steps (suc d) ≡ insert (violation e p) (by_step outcomes count (suc p) steps (suc d)))
          → by_step outcomes (suc count) p (suc steps) d ≡ insert (violation e p) (by_step outcomes count (suc p) (suc steps) d)
      go true q next = here (eqb-true e d q)
      go false q next =
          let n : e ≡ d → ⊥ = eqb-false e d q in
          let l : d < e = less d e i (λ x. n (sym x)) in
          rw (false_not p e d o n, next l)
          (sym (insert_past (violation e p) d (passing (false_at d) outcomes count (suc p)) (by_step outcomes count (suc p) steps (suc d)) l))

  by_step_none : (p steps d : ℕ) → by_step outcomes zero p steps d ≡ []
  unfolding by_step passing
  by_step_none p zero d = refl
  by_step_none p (suc steps) d = by_step_none p steps (suc d)

  -- The violations by step are those by tick, put into order.
  pub steps_in_order : (end count p : ℕ) → by_step outcomes count p end 0 ≡ in_order (by_tick (λ q. step_if_false end (outcomes q)) end count p)
  unfolding in_order by_tick false_at
  steps_in_order end zero p = by_step_none p end 0
  steps_in_order end (suc count) p = go (outcomes p) refl (steps_in_order end count (suc p))
    where
      later : List Violation
      later = by_tick (λ q. step_if_false end (outcomes q)) end count (suc p)

      no_more : (o : Outcome) → outcomes p ≡ o → ((e : ℕ) → e < end → false_at e o ≡ false)
          → by_step outcomes count (suc p) end 0 ≡ in_order later → by_step outcomes (suc count) p end 0 ≡ in_order later
      no_more o h k next = tick_other count p end 0 (λ e i j. ap (false_at e) h ∙ k e (omega arith)) ∙ next

      at : (e : ℕ) → outcomes p ≡ Decided False e → (b : Bool) → ltb e end ≡ b → by_step outcomes count (suc p) end 0 ≡ in_order later
          → by_step outcomes (suc count) p end 0 ≡ in_order (cond b (violation e p ∷ later) later)
      at e h true q next = tick_false count p e h end 0 (omega arith) (let l = ltb-true e end q in omega arith) ∙ ap (insert (violation e p)) next
      at e h false q next =
          let l : end ≤ e = ltb-false e end q in
          no_more (Decided False e) h (λ d i. ne_eqb e d (λ z. omega arith)) next

      go : (o : Outcome) → outcomes p ≡ o → by_step outcomes count (suc p) end 0 ≡ in_order later
          → by_step outcomes (suc count) p end 0 ≡ in_order (cond (ltb (step_if_false end o) end) (violation (step_if_false end o) p ∷ later) later)
      go (Decided True d) h next = rw (le-ltb end end (omega arith)) (no_more (Decided True d) h (λ e i. refl) next)
      go (Decided False d) h next = at d h (ltb d end) refl next
      go Open h next = rw (le-ltb end end (omega arith)) (no_more Open h (λ e i. refl) next)

-- ---- the complete report

-- Steps that agree at the ticks p to p + count - 1.
pub by_tick_same : (f g : ℕ → ℕ) (end count p : ℕ) → ((q : ℕ) → p ≤ q → q < p + count → f q ≡ g q) → by_tick f end count p ≡ by_tick g end count p
unfolding by_tick
by_tick_same f g end zero p h = refl
by_tick_same f g end (suc count) p h =
    rw (h p (omega arith) (omega arith), by_tick_same f g end count (suc p) (λ q i j. h q (omega arith) (omega arith)))

pub false_step_rule : (F : Formula) (rec : List ℕ) (tick : ℕ) → length rec ≤ 65535 → tick < length rec
    → false_step F rec tick ≡ step_if_false (length rec) (rule F (recorded rec) (length rec - 1) tick)
unfolding false_step over_recording
false_step_rule F rec tick h k = rw (le-leb (length rec) 65535 h, lt-ltb tick (length rec) k)

-- A tick that is not in the recording is no violation.
pub false_step_late : (F : Formula) (rec : List ℕ) (tick : ℕ) → length rec ≤ tick → length rec ≤ false_step F rec tick
unfolding false_step over_recording
false_step_late F rec tick h = rw (le-ltb tick (length rec) h) (go (leb (length rec) 65535))
  where
    go : (b : Bool)
        → length rec ≤ answered_step (length rec) (cond (b && false) (accepted (rule F (recorded rec) (length rec - 1) tick)) (refused 16))
    go true = omega arith
    go false = omega arith

pub complete_by_tick : (F : Formula) (rec : List ℕ) → length rec ≤ 65535
    → complete F rec ≡ in_order (by_tick (false_step F rec) (length rec) (length rec) 0)
unfolding complete
complete_by_tick F rec h =
    steps_in_order (rule F (recorded rec) (length rec - 1)) (length rec) (length rec) 0
    ∙ ap in_order
    (by_tick_same (λ q. step_if_false (length rec) (rule F (recorded rec) (length rec - 1) q)) (false_step F rec) (length rec) (length rec) 0
    (λ q i j. sym (false_step_rule F rec q h (omega arith))))
