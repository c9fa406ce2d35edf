-- Violations stored tick by tick: the entries so far, and those of the ticks that are left.
use Rattle.std.proofs.Common.{◌≡◌, ℕ, zero, suc, ◌+◌, ◌-◌, ◌≤◌, ◌<◌, Bool, true, false, cond, List, [], ◌∷◌, ◌++◌, length, take, drop, refl, sym, ap, ◌∙◌, append_assoc, add-one, arith, length-append}
use Rattle.std.specs.Prelude.{ltb, set, Some, None}
use Rattle.std.proofs.Math.ListN.{length-set}
use Rattle.std.proofs.lemmas.List.{append-nil, length-take-le, take-append-drop, take_more_set, drop-drop, drop-set-lt}
use Rattle.complete_report.specs.declared.Violation.{Violation}
use Rattle.complete_report.specs.Report.{violation, with_front}
use Rattle.complete_report.specs.FalseSteps.{by_tick, step_below}
use Rattle.recorded_rule.proofs.Below.{below_some, below_none}

-- ---- the ticks that are left

-- A recording has no more violations than ticks.
pub few_violations : (steps : ℕ → ℕ) (end count tick : ℕ) → length (by_tick steps end count tick) ≤ count
unfolding by_tick
few_violations steps end zero tick = omega arith
few_violations steps end (suc count) tick = go (ltb (steps tick) end) (few_violations steps end count (suc tick))
  where
    go : (b : Bool) → length (by_tick steps end count (suc tick)) ≤ count
        → length (cond b (violation (steps tick) tick ∷ by_tick steps end count (suc tick)) (by_tick steps end count (suc tick))) ≤ suc count
    go true h = omega arith
    go false h = omega arith

module _ (steps : ℕ → ℕ) (end : ℕ) where
  -- Those from a tick on, of so many in all.
  abbrev pub left : ℕ → ℕ → List Violation
  left ticks tick = by_tick steps end (ticks - tick) tick

  pub none_left : (ticks tick : ℕ) → ticks ≤ tick → left ticks tick ≡ []
  unfolding by_tick
  none_left ticks tick h = let e : ticks - tick ≡ 0 = omega arith in rw e

  -- One tick less.
  pub one_less : (ticks tick : ℕ) → tick < ticks
      → left ticks tick ≡ cond (ltb (steps tick) end) (violation (steps tick) tick ∷ left ticks (tick + 1)) (left ticks (tick + 1))
  unfolding by_tick
  one_less ticks tick h =
      let e : ticks - tick ≡ suc (ticks - (tick + 1)) = omega arith in
      rw (e, add-one)

  -- ---- how many there are

  with_next : (ticks tick : ℕ) → tick < ticks → (b : Bool) → ltb (steps tick) end ≡ b
      → left ticks tick ≡ cond b (violation (steps tick) tick ∷ left ticks (tick + 1)) (left ticks (tick + 1))
  with_next ticks tick h b e = one_less ticks tick h ∙ ap (λ (x : Bool). cond x (violation (steps tick) tick ∷ left ticks (tick + 1)) (left ticks (tick + 1))) e

  pub counted_some : (ticks tick : ℕ) → tick < ticks → ltb (steps tick) end ≡ true → length (left ticks tick) ≡ suc (length (left ticks (tick + 1)))
  counted_some ticks tick h e = ap length (with_next ticks tick h true e)

  pub counted_none : (ticks tick : ℕ) → tick < ticks → ltb (steps tick) end ≡ false → length (left ticks tick) ≡ length (left ticks (tick + 1))
  counted_none ticks tick h e = ap length (with_next ticks tick h false e)

-- ---- the entries so far

-- The first `count` entries of a list are the violations of the ticks below `tick`, and those after them are as they were.
pub record Collected (steps : ℕ → ℕ) (end ticks : ℕ) (old list : List Violation) (count tick : ℕ) : Type 0 where
  pub few : count ≤ tick
  pub inside : count ≤ length list
  pub front : take count list ++ left steps end ticks tick ≡ by_tick steps end ticks 0
  pub rest : drop count list ≡ drop count old

module _ (steps : ℕ → ℕ) (end ticks : ℕ) (old : List Violation) where
  pub none_collected : Collected steps end ticks old old 0 0
  none_collected = record {
    few = omega arith;
    inside = omega arith;
    front = ap (λ (n : ℕ). by_tick steps end n 0) (let e : ticks - 0 ≡ ticks = omega arith in e);
    rest = refl;
  }

  module _ (list : List Violation) (count tick : ℕ) (so_far : Collected steps end ticks old list count tick) where
    abbrev next : Violation
    next = violation (steps tick) tick

    other : left steps end ticks tick ≡ left steps end ticks (tick + 1) → Collected steps end ticks old list count (tick + 1)
    other e = record {
      few = omega (arith, so_far.few);
      inside = so_far.inside;
      front = ap (λ (l : List Violation). take count list ++ l) (sym e) ∙ so_far.front;
      rest = so_far.rest;
    }

    here : left steps end ticks tick ≡ next ∷ left steps end ticks (tick + 1) → length (by_tick steps end ticks 0) ≤ length list
        → Collected steps end ticks old (set list count next) (count + 1) (tick + 1)
    here e h =
        let room : count < length list = omega (arith, h, so_far.inside, ap length so_far.front, ap length e, length-append (take count list) (left steps end ticks tick), length-take-le count list so_far.inside) in record {
          few = omega (arith, so_far.few);
          inside = omega (arith, room, length-set list count next);
          front =
              ap (λ (l : List Violation). l ++ left steps end ticks (tick + 1)) (take_more_set list count next room)
              ∙ append_assoc (take count list) (next ∷ []) (left steps end ticks (tick + 1))
              ∙ ap (λ (l : List Violation). take count list ++ l) (sym e) ∙ so_far.front;
          rest =
              drop-set-lt (count + 1) list count next (omega arith) ∙ sym (drop-drop 1 count list) ∙ ap (drop 1) so_far.rest ∙ drop-drop 1 count old;
        }

    pub one_collected : tick < ticks → length (by_tick steps end ticks 0) ≤ length list → {step : ℕ} → Some step ≡ step_below end (steps tick)
        → Collected steps end ticks old (set list count (violation step tick)) (count + 1) (tick + 1)
    one_collected h k {step} e =
        let b = below_some end (steps tick) e in
        rw b.1 (here (with_next steps end ticks tick h true b.0) k)

    pub other_collected : tick < ticks → None ≡ step_below end (steps tick) → Collected steps end ticks old list count (tick + 1)
    other_collected h e = other (with_next steps end ticks tick h false (below_none end (steps tick) e))

    pub all_collected : ticks ≤ tick → (count ≡ length (by_tick steps end ticks 0)) × (list ≡ with_front (by_tick steps end ticks 0) old)
    all_collected h =
        let whole : take count list ≡ by_tick steps end ticks 0 =
        sym (append-nil (take count list)) ∙ ap (λ (l : List Violation). take count list ++ l) (sym (none_left steps end ticks tick h)) ∙ so_far.front in
        let long : count ≡ length (by_tick steps end ticks 0) = sym (length-take-le count list so_far.inside) ∙ ap length whole in
        (long, sym (take-append-drop count list) ∙ ap (λ (l : List Violation). l ++ drop count list) whole ∙ ap (λ (l : List Violation). by_tick steps end ticks 0 ++ l) (so_far.rest ∙ ap (λ (n : ℕ). drop n old) long))
