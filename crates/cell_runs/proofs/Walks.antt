-- The walk over the positions of a range, from the last to the first: one position more.
use Prim.Native.Nat.{ℕ, zero, suc, ◌+◌, ◌*◌, ◌-◌, ◌≤◌, ◌<◌, min, max}
use mathlib.Core.Path.{◌≡◌, refl, sym, ap, subst, ◌∙◌}
use mathlib.Core.Logic.{inl, inr, ⊎_elim}
use mathlib.Core.List.{List}
use native.Mathlib.Omega.{arith}
use native.Mathlib.Nat.{add-sub_cancel_left}
use native.Mathlib.Decide.{dec_lt}
use lib.ListN.{length, take, drop, length-drop}
use lib.Seq.{length-take-le}
use borrow.Rule.Slice.PartMut.{put_mid}
use Rattle.rule.specs.declared.Verdict.TheVariants.{True, False}
use Rattle.rule.specs.declared.Outcome.{Outcome}
use Rattle.rule.specs.declared.Outcome.TheVariants.{Decided, Open}
use Rattle.rule.specs.Meaning.{both, walk}
use Rattle.rule.specs.Started.{From, Reach}
use Rattle.rule.proofs.Horizon.{from_both, from_less, from_start}
use Rattle.rule.proofs.Progress.{within}
use Rattle.cell_runs.specs.Tree.{Tree, formula_of}
use Rattle.cell_runs.specs.Slots.{slot}
use Rattle.cell_runs.specs.Run.{out, with_position, SlotHolds, SlotReady}
use Rattle.cell_runs.specs.Calls.{Variables, places, AtHand, PositionAdvanced, PositionsWalked}
use Rattle.cell_runs.proofs.Slots.{slot_same, slot_below, slot_above, slot_before}
use Rattle.cell_runs.proofs.Heads.{walk_last}

-- ---- false beside anything is false, at the same step or an earlier one

pub false_first : (a : ℕ) (o : Outcome) → (d : ℕ) × (both (Decided False a) o ≡ Decided False d) × (d ≤ a)
unfolding both
false_first a (Decided True b) = (a, refl, omega arith)
false_first a (Decided False b) = (min a b, refl, omega arith)
false_first a Open = (a, refl, omega arith)

false_second : (o : Outcome) (b : ℕ) → (d : ℕ) × (both o (Decided False b) ≡ Decided False d) × (d ≤ b)
unfolding both
false_second (Decided True a) b = (b, refl, omega arith)
false_second (Decided False a) b = (min a b, refl, omega arith)
false_second Open b = (b, refl, omega arith)

pub walk_false : (f : ℕ → Outcome) (j first b : ℕ) → (d : ℕ) × (walk f j first (Decided False b) ≡ Decided False d) × (d ≤ b)
unfolding walk
walk_false f zero first b = (b, refl, omega arith)
walk_false f (suc j) first b =
    let ih = walk_false f j (suc first) b in
    let one = false_second (f first) ih.0 in
    (one.0, ap (both (f first)) ih.1 ∙ one.1, omega (arith, one.2, ih.2))

-- ---- the walk

pub record WalkedTo (F : Tree) (hist : List ℕ) (b : ℕ) (e : Variables) (s t first leading n : ℕ) (end : Outcome) (z : ℕ) (run₀ : List ℕ) (j : ℕ) (acc : Outcome) (run : List ℕ) : Type 0 where
  pub gives :
      ((k : ℕ) → k < j → slot z k run ≡ slot z k run₀)
      × ((flags : ℕ → ℕ) (H : ℕ) → AtHand flags H hist b e t
      → ((k : ℕ) → leading ≤ k → k < n → (max s (first + k) ≤ first + k + H) × Reach H flags (with_position (places e) (first + k)) (max s (first + k)) (formula_of F))
      → ((k : ℕ) → leading ≤ k → k < n → SlotReady flags t (places e) s F (first + k) (slot z k run₀))
      → (walk (λ q. out flags t (with_position (places e) q) (max s q) F) n first end ≡ walk (λ q. out flags t (with_position (places e) q) (max s q) F) j first acc)
      × ((From s end → From s acc)
      × ((k : ℕ) → j ≤ k → k < n → SlotHolds flags t (places e) s F (first + k) (slot z k run))))

module _ {F : Tree} {hist : List ℕ} {b : ℕ} {e : Variables} {s t first leading n : ℕ} {end : Outcome} {z : ℕ} {run₀ : List ℕ} where
  pub walk_begun : WalkedTo F hist b e s t first leading n end z run₀ n end run₀
  walk_begun = record { gives = ((λ k g. refl), λ flags H h reach ready. (refl, ((λ x. x), λ k g l. absurd (omega arith)))) }

  pub walk_done : (j : ℕ) (acc : Outcome) (run : List ℕ) → leading ≤ j → (leading < j → ⊥) → WalkedTo F hist b e s t first leading n end z run₀ j acc run
      → PositionsWalked F hist b e s t first leading n end z run₀ acc run
  walk_done j acc run g h p =
      let q : j ≡ leading = omega (arith, h) in
      let all : WalkedTo F hist b e s t first leading n end z run₀ leading acc run = subst (λ (i : ℕ). WalkedTo F hist b e s t first leading n end z run₀ i acc run) q p in
      record { gives = (all.gives.0, λ flags H hon reach ready. inl (all.gives.1 flags H hon reach ready)) }

  module _ (acc acc' : Outcome) (run ys : List ℕ) (o : Outcome) where
    walk_more' : (j : ℕ) → leading ≤ j → j < n → n * z ≤ length run → length ys ≡ z
        → PositionAdvanced F hist b e s t (first + j) (slot z j run) o ys
        → acc' ≡ both o acc
        → WalkedTo F hist b e s t first leading n end z run₀ (suc j) acc run
        → WalkedTo F hist b e s t first leading n end z run₀ j acc' (put_mid (j * z) z run ys)
    walk_more' j i h room len p ea ih = record {
      gives =
          let l : j * z + z ≤ n * z = slot_before z j n h in (
            (λ k g. slot_below z run ys j k g (omega arith) ∙ ih.gives.0 k (omega arith)),
            λ flags H hon reach ready.
                let r = ih.gives.1 flags H hon reach ready in
                let pr = p.gives flags H hon (reach j i h) (subst (SlotReady flags t (places e) s F (first + j)) (sym (ih.gives.0 j (omega arith))) (ready j i h)) in (
                  r.0 ∙ walk_last (λ q. out flags t (with_position (places e) q) (max s q) F) j first acc
                      ∙ ap (walk (λ q. out flags t (with_position (places e) q) (max s q) F) j first) (ap (λ (x : Outcome). both x acc) (sym pr.0) ∙ sym ea),
                  (
                    (λ x. subst (From s) (sym ea) (from_both s o acc
                        (subst (From s) (sym pr.0) (from_less (out flags t (with_position (places e) (first + j)) (max s (first + j)) F) (omega arith) (from_start (formula_of F) flags t (with_position (places e) (first + j)) (max s (first + j)))))
                        (r.1.0 x))),
                    λ k g m. elim (dec_lt j k) [
                      | yes q ↦ subst (SlotHolds flags t (places e) s F (first + k)) (sym (slot_above z run ys j k q (omega arith) len)) (r.1.1 k q m)
                      | no q ↦
                          let eq : k ≡ j = omega arith in
                          subst (λ (i : ℕ). SlotHolds flags t (places e) s F (first + i) (slot z i (put_mid (j * z) z run ys))) (sym eq)
                          (subst (SlotHolds flags t (places e) s F (first + j)) (sym (slot_same z run ys j (omega arith) len)) pr.1)
                    ],
                  ),
                ),
          );
    }

    pub walk_more : (j : ℕ) → leading < j → j ≤ n → n * z ≤ length run
        → length ys ≡ length (take ((j - 1) * z + z - (j - 1) * z) (drop ((j - 1) * z) run))
        → PositionAdvanced F hist b e s t (first + (j - 1)) (take ((j - 1) * z + z - (j - 1) * z) (drop ((j - 1) * z) run)) o ys
        → acc' ≡ both o acc
        → WalkedTo F hist b e s t first leading n end z run₀ j acc run
        → WalkedTo F hist b e s t first leading n end z run₀ (j - 1) acc' (put_mid ((j - 1) * z) ((j - 1) * z + z - (j - 1) * z) run ys)
    walk_more j some h room len p ea ih =
        let l : (j - 1) * z + z ≤ n * z = slot_before z (j - 1) n (omega arith) in
        let d : length (drop ((j - 1) * z) run) ≡ length run - (j - 1) * z = length-drop ((j - 1) * z) run in
        let c : (j - 1) * z + z - (j - 1) * z ≡ z = add-sub_cancel_left ((j - 1) * z) z in
        let len' : length ys ≡ z = rw c at len ∙ length-take-le z (drop ((j - 1) * z) run) (omega arith) in
        let p' : PositionAdvanced F hist b e s t (first + (j - 1)) (slot z (j - 1) run) o ys = rw c at p in
        let ej : j ≡ suc (j - 1) = omega arith in
        rw c (walk_more' (j - 1) (omega arith) (omega arith) room len' p' ea (subst (λ (i : ℕ). WalkedTo F hist b e s t first leading n end z run₀ i acc run) ej ih))

    -- the position is false: the walk stops
    pub walk_stopped : (j : ℕ) → leading < j → j ≤ n → n * z ≤ length run → first + (j - 1) ≤ t
        → length ys ≡ length (take ((j - 1) * z + z - (j - 1) * z) (drop ((j - 1) * z) run))
        → PositionAdvanced F hist b e s t (first + (j - 1)) (take ((j - 1) * z + z - (j - 1) * z) (drop ((j - 1) * z) run)) o ys
        → (d : ℕ) → o ≡ Decided False d → acc' ≡ both o acc
        → WalkedTo F hist b e s t first leading n end z run₀ j acc run
        → PositionsWalked F hist b e s t first leading n end z run₀ acc' (put_mid ((j - 1) * z) ((j - 1) * z + z - (j - 1) * z) run ys)
    unfolding SlotReady
    walk_stopped j some h room come len p d eo ea ih =
        let w = walk_more j some h room len p ea ih in
        let c : (j - 1) * z + z - (j - 1) * z ≡ z = add-sub_cancel_left ((j - 1) * z) z in
        let p' : PositionAdvanced F hist b e s t (first + (j - 1)) (slot z (j - 1) run) o ys = rw c at p in
        let first_false = false_first d acc in
        let er : acc' ≡ Decided False first_false.0 = ea ∙ ap (λ (x : Outcome). both x acc) eo ∙ first_false.1 in
        record {
          gives = (
            (λ k g. w.gives.0 k (omega arith)),
            λ flags H hon reach ready.
                let was : SlotReady flags t (places e) s F (first + (j - 1)) (slot z (j - 1) run) = subst (SlotReady flags t (places e) s F (first + (j - 1))) (sym (ih.gives.0 (j - 1) (omega arith))) (ready (j - 1) (omega arith) (omega arith)) in
                let st : s ≤ t = ⊎_elim (λ y. omega (arith, y)) (λ y. omega (arith, y.1, y.2)) was in
                let pr = p'.gives flags H hon (reach (j - 1) (omega arith) (omega arith)) was in
                let by : d ≤ t = within (formula_of F) flags (with_position (places e) (first + (j - 1))) (max s (first + (j - 1))) t d False (omega arith) (sym pr.0 ∙ eo) in
                inr (j - 1, first_false.0, er, omega (arith, first_false.2), (w.gives.1 flags H hon reach ready).0),
          );
        }
