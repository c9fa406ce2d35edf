-- The head of a range: that it is moved on and written, and what the leading true positions mean for the walk.
use Prim.Native.Nat.{ℕ, zero, suc, ◌+◌, ◌*◌, ◌-◌, ◌%◌, ◌≤◌, ◌<◌, max}
use mathlib.Core.Path.{◌≡◌, refl, sym, ap, subst, ◌∙◌}
use mathlib.Core.Logic.{inl, inr}
use mathlib.Core.List.{List}
use native.Mathlib.Omega.{arith}
use native.Mathlib.Numerals.{add-one}
use native.Mathlib.Nat.{add-zero, add-suc, suc-add}
use native.Mathlib.Decide.{dec_lt}
use lib.ListN.{length, get_or, take, drop, set, length-drop}
use lib.Seq.{get_or-take, get_or-drop, length-take-le}
use Rattle.rule.specs.Meaning.{both, walk}
use Rattle.rule.proofs.Horizon.{from_both}
use Rattle.rule.specs.declared.Verdict.TheVariants.{True, False}
use Rattle.rule.specs.declared.Outcome.{Outcome}
use Rattle.rule.specs.declared.Outcome.TheVariants.{Decided, Open}
use Rattle.rule.specs.Started.{From}
use Rattle.cells.specs.Cells.{since, step_after}
use Rattle.cells.proofs.Marks.{two_drop, two_first, two_second}
use Rattle.cell_runs.specs.Slots.{slot}
use Rattle.cell_runs.specs.Leading.{Leading, MovedOn, HeadMoved, HeadFit}

-- ---- moved on

slot_word : (z j k : ℕ) (l : List ℕ) → k < z → get_or (slot z j l) k 0 ≡ get_or l (j * z + k) 0
slot_word z j k l h = get_or-take z (drop (j * z) l) k 0 h ∙ get_or-drop (j * z) l k 0

module _ (p z n : ℕ) (slots : List ℕ) (leading latest : ℕ) where
  pub moved_none : leading ≤ n → MovedOn p z n slots leading latest leading latest
  moved_none h = record { low = omega arith; high = h; after_tick = inl (refl, refl); true_so_far = λ f first s k x. x }

  pub moved_more : (l m x y : ℕ) → l < n → 4 ≤ z → get_or slots (l * z) 0 ≡ 1 → x ≡ step_after p (get_or slots (l * z + 2) 0) → y ≡ max m x
      → MovedOn p z n slots leading latest l m → MovedOn p z n slots leading latest (l + 1) y
  unfolding Leading
  moved_more l m x y h g e ex ey c =
      let low : leading ≤ l = c.low in
      let e0 : get_or (slot z l slots) 0 0 ≡ 1 = slot_word z l 0 slots (omega arith) ∙ ap (λ (i : ℕ). get_or slots i 0) (add-zero (l * z)) ∙ e in
      let e2 : step_after p (get_or (slot z l slots) 2 0) ≡ x = ap (step_after p) (slot_word z l 2 slots (omega arith)) ∙ sym ex in
      record {
        low = omega arith;
        high = omega arith;
        after_tick = inr (omega arith);
        true_so_far = λ f first s k i. rw (add-one l) (m, x, c.true_so_far f first s k i, k l low h e0 ∙ ap (Decided True) e2, ey);
      }

pub head_moved : (p z n : ℕ) (run rest : List ℕ) (leading latest leading' latest' x : ℕ) → 4 ≤ length run → rest ≡ drop 4 run → x ≡ since p latest' → MovedOn p z n rest leading latest leading' latest'
    → HeadMoved p z n run leading latest (set (set run 2 x) 0 (leading' % 4294967296))
head_moved p z n run rest leading latest leading' latest' x h er ex c = record {
  leading' = leading';
  latest' = latest';
  moved = subst (λ (l : List ℕ). MovedOn p z n l leading latest leading' latest') er c;
  slots_kept = two_drop run 0 x (leading' % 4294967296) 4 (omega arith);
  leading_word = two_first run 0 x (leading' % 4294967296) (omega arith);
  latest_word = two_second run 0 x (leading' % 4294967296) (omega arith) ∙ ex;
}

-- ---- what it means

true_true : (a d : ℕ) (e : Outcome) → both (Decided True a) (both (Decided True d) e) ≡ both (Decided True (max a d)) e
unfolding both
true_true a d (Decided True x) = ap (Decided True) (omega arith)
true_true a d (Decided False x) = refl
true_true a d Open = refl

true_start : (s : ℕ) (e : Outcome) → From s e → e ≡ both (Decided True s) e
unfolding both
true_start s (Decided True x) h = ap (Decided True) (omega arith)
true_start s (Decided False x) h = refl
true_start s Open h = refl

pub walk_last : (f : ℕ → Outcome) (n q : ℕ) (end : Outcome) → walk f (suc n) q end ≡ walk f n q (both (f (q + n)) end)
unfolding walk
walk_last f zero q end = ap (λ (i : ℕ). both (f i) end) (sym (add-zero q))
walk_last f (suc n) q end =
    ap (both (f q)) (walk_last f n (suc q) end ∙ ap (λ (i : ℕ). walk f n (suc q) (both (f i) end)) (suc-add q n ∙ sym (add-suc q n)))

module _ (first s : ℕ) where
  pub leading_walk : (f : ℕ → Outcome) → ((q : ℕ) → From s (f q)) → (l m : ℕ) (e : Outcome) → Leading f first s l m → From s e → walk f l first e ≡ both (Decided True m) e
  unfolding Leading walk
  leading_walk f g zero m e h k = true_start s e k ∙ ap (λ (i : ℕ). both (Decided True i) e) (sym h)
  leading_walk f g (suc l) m e h k =
      let d : ℕ = h.1 in
      let ef : f (first + l) ≡ Decided True h.1 = h.3 in
      walk_last f l first e
      ∙ ap (λ (o : Outcome). walk f l first (both o e)) ef
      ∙ leading_walk f g l h.0 (both (Decided True h.1) e) h.2 (from_both s (Decided True h.1) e (subst (From s) ef (g (first + l))) k)
      ∙ true_true h.0 h.1 e
      ∙ ap (λ (i : ℕ). both (Decided True i) e) (sym h.4)

  pub leading_on : (f g : ℕ → Outcome) (l m : ℕ) → ((j d : ℕ) → j < l → f (first + j) ≡ Decided True d → g (first + j) ≡ Decided True d) → Leading f first s l m → Leading g first s l m
  unfolding Leading
  leading_on f g zero m k h = h
  leading_on f g (suc l) m k h = (h.0, h.1, leading_on f g l h.0 (λ j d i e. k j d (omega arith) e) h.2, k l h.1 (omega arith) h.3, h.4)

  pub leading_at : (f : ℕ → Outcome) (l m j : ℕ) → j < l → Leading f first s l m → (d : ℕ) × (f (first + j) ≡ Decided True d)
  unfolding Leading
  leading_at f zero m j i h = absurd (omega arith)
  leading_at f (suc l) m j i h = elim (dec_lt j l) [
    | yes k ↦ leading_at f l h.0 j k h.2
    | no k ↦ let e : j ≡ l = omega arith in (h.1, ap (λ (x : ℕ). f (first + x)) e ∙ h.3)
  ]

  pub leading_most : (f : ℕ → Outcome) (t l m : ℕ) → s ≤ t → ((j d : ℕ) → j < l → f (first + j) ≡ Decided True d → d ≤ t) → Leading f first s l m → m ≤ t
  unfolding Leading
  leading_most f t zero m i k h = let e : m ≡ s = h in omega arith
  leading_most f t (suc l) m i k h =
      let a : h.0 ≤ t = leading_most f t l h.0 i (λ j d x e. k j d (omega arith) e) h.2 in
      let d : h.1 ≤ t = k l h.1 (omega arith) h.3 in
      let e : m ≡ max h.0 h.1 = h.4 in
      omega arith

  pub leading_none : (f : ℕ → Outcome) (l m : ℕ) → l ≡ 0 → Leading f first s l m → m ≡ s
  unfolding Leading
  leading_none f l m e h = rw e at h

pub head_rest : (z n leading : ℕ) (run : List ℕ) → HeadFit z n leading (length run) → HeadFit z n leading (4 + length (take (length run - 4) (drop 4 run)))
head_rest z n leading run f =
    let r : 4 + n * z ≤ length run = f.room in
    let d : length (drop 4 run) ≡ length run - 4 = length-drop 4 run in
    let l : length (take (length run - 4) (drop 4 run)) ≡ length run - 4 = length-take-le (length run - 4) (drop 4 run) (omega arith) in
    record { room = omega arith; slots = f.slots; within = f.within }
