-- What the report lists: the violations by tick, in order, ascend, and list (p, d) exactly where p is one of the ticks and d its step, below the end. From this, what the
-- complete report says of each tick, and that there is one such list.
use Prim.Native.Nat.{ℕ, zero, suc, ◌+◌, ◌-◌, ◌≤◌, ◌<◌}
use mathlib.Core.Path.{◌≡◌, refl, sym, ap, ap₂, subst, ◌∙◌}
use mathlib.Core.Bool.{Bool, true, false, cond, ◌||◌, false≢true}
use mathlib.Core.List.{List, [], ◌∷◌}
use native.Mathlib.Omega.{arith}
use lib.Dec.{ltb, eqb}
use lib.ListN.{length}
use borrow.Author.Tests.{ltb-true, lt-ltb, eqb-true, eqb-false}
use Rattle.rule.specs.declared.Verdict.TheVariants.{True, False}
use Rattle.rule.specs.declared.Outcome.{Outcome}
use Rattle.rule.specs.declared.Outcome.TheVariants.{Decided, Open}
use Rattle.rule.specs.Formula.{Formula}
use Rattle.rule.specs.Meaning.{rule}
use Rattle.rule.specs.Recording.{recorded}
use Rattle.rule.proofs.Progress.{within}
use Rattle.complete_report.specs.declared.Violation.{Violation}
use Rattle.complete_report.specs.Report.{violation, complete}
use Rattle.complete_report.specs.Lists.{same, listed}
use Rattle.complete_report.specs.Order.{in_order, Ascending}
use Rattle.complete_report.specs.FalseSteps.{step_if_false, by_tick}
use Rattle.complete_report.specs.Said.{IsReport}
use Rattle.complete_report.proofs.Orders.{less, same_self, same_tick, same_step}
use Rattle.complete_report.proofs.Inserted.{or_true, listed_insert, ascending_insert, ascending_one}
use Rattle.complete_report.proofs.ByTick.{steps_in_order}

pub test_equal : (a b : Bool) → (a ≡ true → b ≡ true) → (b ≡ true → a ≡ true) → a ≡ b
test_equal true b h k = sym (h refl)
test_equal false true h k = k refl
test_equal false false h k = refl

-- A list in order lists the same.
pub listed_in_order : (v : Violation) (list : List Violation) → listed v (in_order list) ≡ listed v list
unfolding listed in_order
listed_in_order v [] = refl
listed_in_order v (w ∷ list) = listed_insert v w (in_order list) ∙ ap (λ (b : Bool). same v w || b) (listed_in_order v list)

-- ---- the violations by tick

module _ (steps : ℕ → ℕ) (end : ℕ) where
  -- v is the violation of one of `count` ticks from p on.
  abbrev pub OfTick : ℕ → ℕ → Violation → Type 0
  OfTick count p v = (p ≤ v.tick) × (v.tick < p + count) × (steps v.tick ≡ v.step) × (v.step < end)

  pub listed_of_tick : (count p : ℕ) (v : Violation) → listed v (by_tick steps end count p) ≡ true → OfTick count p v
  unfolding listed by_tick
  listed_of_tick zero p v h = absurd (false≢true h)
  listed_of_tick (suc count) p v h = go (ltb (steps p) end) refl h (listed_of_tick count (suc p) v)
    where
      wider : OfTick count (suc p) v → OfTick (suc count) p v
      wider w = (omega (arith, w.0), omega (arith, w.1), w.2, w.3)

      go : (b : Bool) → ltb (steps p) end ≡ b
          → listed v (cond b (violation (steps p) p ∷ by_tick steps end count (suc p)) (by_tick steps end count (suc p))) ≡ true
          → (listed v (by_tick steps end count (suc p)) ≡ true → OfTick count (suc p) v) → OfTick (suc count) p v
      go true e l next =
          or_true (same v (violation (steps p) p)) (listed v (by_tick steps end count (suc p))) (OfTick (suc count) p v) l
          (λ s.
          let t : v.tick ≡ p = same_tick v (violation (steps p) p) s in
          let d : v.step ≡ steps p = same_step v (violation (steps p) p) s in
          (omega arith, omega arith, ap steps t ∙ sym d, omega (arith, ltb-true (steps p) end e)))
          (λ s k. wider (next k))
      go false e l next = wider (next l)

  pub of_tick_listed : (count p : ℕ) (v : Violation) → OfTick count p v → listed v (by_tick steps end count p) ≡ true
  unfolding listed by_tick
  of_tick_listed zero p v w = absurd (omega (arith, w.0, w.1))
  of_tick_listed (suc count) p v w = go (eqb p v.tick) refl (of_tick_listed count (suc p) v)
    where
      later : (b : Bool) → listed v (by_tick steps end count (suc p)) ≡ true
          → listed v (cond b (violation (steps p) p ∷ by_tick steps end count (suc p)) (by_tick steps end count (suc p))) ≡ true
      later true h = rw h (or_last (same v (violation (steps p) p)))
        where
          or_last : (b : Bool) → (b || true) ≡ true
          or_last true = refl
          or_last false = refl
      later false h = h

      here : (v.tick ≡ p) → listed v (cond (ltb (steps p) end) (violation (steps p) p ∷ by_tick steps end count (suc p)) (by_tick steps end count (suc p))) ≡ true
      here e =
          let d : steps p ≡ v.step = ap steps (sym e) ∙ w.2 in
          let x : violation (steps p) p ≡ v = ap₂ violation d (sym e) in
          rw (lt-ltb (steps p) end (omega (arith, w.3)), x, same_self v)

      go : (b : Bool) → eqb p v.tick ≡ b → (OfTick count (suc p) v → listed v (by_tick steps end count (suc p)) ≡ true)
          → listed v (cond (ltb (steps p) end) (violation (steps p) p ∷ by_tick steps end count (suc p)) (by_tick steps end count (suc p))) ≡ true
      go true e next = here (sym (eqb-true p v.tick e))
      go false e next =
          let l : p < v.tick = less p v.tick w.0 (eqb-false p v.tick e) in
          later (ltb (steps p) end) (next (l, omega (arith, w.1), w.2, w.3))

  -- ---- in order

  pub ascending_in_order : (count p : ℕ) → Ascending (λ v. true) (in_order (by_tick steps end count p))
  unfolding in_order by_tick
  ascending_in_order zero p = tt
  ascending_in_order (suc count) p = go (ltb (steps p) end) (ascending_in_order count (suc p))
    where
      new : (b : Bool) → listed (violation (steps p) p) (by_tick steps end count (suc p)) ≡ b → listed (violation (steps p) p) (by_tick steps end count (suc p)) ≡ false
      new false e = e
      new true e = absurd (omega (arith, (listed_of_tick count (suc p) (violation (steps p) p) e).0))

      go : (b : Bool) → Ascending (λ v. true) (in_order (by_tick steps end count (suc p)))
          → Ascending (λ v. true) (in_order (cond b (violation (steps p) p ∷ by_tick steps end count (suc p)) (by_tick steps end count (suc p))))
      go true a =
          ascending_insert (λ v. true) (violation (steps p) p) (in_order (by_tick steps end count (suc p))) refl a
          (listed_in_order (violation (steps p) p) (by_tick steps end count (suc p))
          ∙ new (listed (violation (steps p) p) (by_tick steps end count (suc p))) refl)
      go false a = a

-- ---- the complete report

-- A step below the recording's length is that of an outcome that is false.
step_of_false : (end : ℕ) (o : Outcome) (d : ℕ) → step_if_false end o ≡ d → d < end → o ≡ Decided False d
step_of_false end (Decided True e) d h l = absurd (omega arith)
step_of_false end (Decided False e) d h l = ap (Decided False) h
step_of_false end Open d h l = absurd (omega arith)

module _ (F : Formula) (rec : List ℕ) where
  -- A step is one of the recording.
  pub in_recording : (p d : ℕ) → p < length rec → rule F (recorded rec) (length rec - 1) p ≡ Decided False d → d < length rec
  unfolding rule
  in_recording p d l e =
      let w : d ≤ length rec - 1 = within F (recorded rec) (p ∷ []) p (length rec - 1) d False (omega arith) e in
      omega arith

  abbrev steps_of : ℕ → ℕ
  steps_of tick = step_if_false (length rec) (rule F (recorded rec) (length rec - 1) tick)

  complete_in_order : complete F rec ≡ in_order (by_tick steps_of (length rec) (length rec) 0)
  unfolding complete
  complete_in_order = steps_in_order (rule F (recorded rec) (length rec - 1)) (length rec) (length rec) 0

  ordered_said : IsReport F rec (in_order (by_tick steps_of (length rec) (length rec) 0))
  ordered_said = record { ordered = ascending_in_order steps_of (length rec) (length rec) 0; exactly = λ v. (said v, listed_so v) }
    where
      said : (v : Violation) → listed v (in_order (by_tick steps_of (length rec) (length rec) 0)) ≡ true
          → (v.tick < length rec) × (rule F (recorded rec) (length rec - 1) v.tick ≡ Decided False v.step)
      said v l =
          let w = listed_of_tick steps_of (length rec) (length rec) 0 v (sym (listed_in_order v (by_tick steps_of (length rec) (length rec) 0)) ∙ l) in
          (omega (arith, w.1), step_of_false (length rec) (rule F (recorded rec) (length rec - 1) v.tick) v.step w.2 w.3)

      listed_so : (v : Violation) → (v.tick < length rec) × (rule F (recorded rec) (length rec - 1) v.tick ≡ Decided False v.step)
          → listed v (in_order (by_tick steps_of (length rec) (length rec) 0)) ≡ true
      listed_so v w =
          listed_in_order v (by_tick steps_of (length rec) (length rec) 0)
          ∙ of_tick_listed steps_of (length rec) (length rec) 0 v
          (omega arith, omega (arith, w.0), ap (step_if_false (length rec)) w.1, in_recording v.tick v.step w.0 w.1)

  -- The complete report's entries ascend, and are the ticks that are false, each with its step.
  pub complete_said : IsReport F rec (complete F rec)
  complete_said = subst (IsReport F rec) (sym complete_in_order) ordered_said

  -- There is one such list.
  pub one_report : (a b : List Violation) → IsReport F rec a → IsReport F rec b → a ≡ b
  one_report a b i j =
      ascending_one (λ v. true) (λ v. true) a b i.ordered j.ordered
      (λ v. test_equal (listed v a) (listed v b) (λ l. (j.exactly v).1 ((i.exactly v).0 l)) (λ l. (i.exactly v).1 ((j.exactly v).0 l)))
