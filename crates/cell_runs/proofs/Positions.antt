-- One position of a range: its byte is saved when its body starts, and its body is a part.
use Prim.Native.Nat.{ℕ, ◌+◌, ◌≤◌, ◌<◌, ◌%◌, max}
use mathlib.Core.Path.{◌≡◌, sym, ap, subst, ◌∙◌}
use mathlib.Core.Logic.{◌⊎◌, inl, inr, ⊎_elim, ◌≢◌}
use mathlib.Core.List.{List}
use native.Mathlib.Omega.{arith}
use native.Mathlib.Numerals.{add-one}
use native.Mathlib.Nat.{mod-eq_of_lt}
use native.Mathlib.Decide.{dec_lt}
use borrow.Author.Tests.{eq-eqb, ne_eqb}
use lib.ListN.{length, get_or, drop, set}
use lib.Seq.{take-suc-set, get_or-set_same, get_or-set_other}
use Rattle.rule.specs.declared.Outcome.{Outcome}
use Rattle.rule.specs.Started.{Before, Reach}
use Rattle.cell_runs.specs.Tree.{Tree, formula_of}
use Rattle.cells.specs.Cells.{CellHolds}
use Rattle.cell_runs.specs.Slots.{window}
use Rattle.cell_runs.specs.Run.{out, with_position, own_tick, RunHolds, SlotHolds, SlotReady}
use Rattle.ring.specs.Ring.{byte_of}
use Rattle.cell_runs.specs.Calls.{Variables, places, with_byte, AtHand, PositionAdvanced, PartAdvanced}
use Rattle.cell_runs.proofs.PutBack.{tail_take, rest_take}

module _ (e : Variables) (q b : ℕ) (deep : e.known < 5) (five : length e.pos ≡ 5) (five₂ : length e.bytes ≡ 5) where
  pub places_entered : places (with_byte e q b) ≡ with_position (places e) q
  places_entered = rw (add-one e.known) (take-suc-set e.pos e.known q (omega arith))

  at_hand_entered : (flags : ℕ → ℕ) (H : ℕ) (hist : List ℕ) (c t : ℕ) → AtHand flags H hist c e t → b ≡ flags q → AtHand flags H hist c (with_byte e q b) t
  at_hand_entered flags H hist c t h eb = record {
    stream = h.stream;
    saved = λ v l. elim (dec_lt v e.known) [
      | yes m ↦
          let ne : v ≢ e.known = omega arith in
          get_or-set_other e.bytes e.known v b 0 ne ∙ h.saved v m ∙ ap flags (sym (get_or-set_other e.pos e.known v q 0 ne))
      | no m ↦
          let eq : v ≡ e.known = omega arith in
          rw eq (get_or-set_same e.bytes e.known b 0 (omega arith) ∙ eb ∙ ap flags (sym (get_or-set_same e.pos e.known q 0 (omega arith))))
    ];
  }

-- the byte that is read when a body starts
byte_right : (flags : ℕ → ℕ) (H : ℕ) (hist : List ℕ) (b : ℕ) (e : Variables) (t q : ℕ) → AtHand flags H hist b e t → q ≤ t → t ≤ q + H → byte_of hist b t q ≡ flags q
byte_right flags H hist b e t q hon h g = elim (dec_lt q t) [
  | yes l ↦ simp (ne_eqb q t (omega arith)) (hon.stream.history q l g)
  | no l ↦ let eq : q ≡ t = omega arith in simp (eq-eqb q t eq) (hon.stream.current ∙ ap flags (sym eq))
]

module _ (F : Tree) (hist : List ℕ) (b : ℕ) (e : Variables) (s t q : ℕ) where
  -- what was so a tick ago, where the body doesn't start now
  slot_before_now : (flags : ℕ → ℕ) (cell : List ℕ) → q ≤ t → (t ≡ max s q → ⊥) → SlotReady flags t (places e) s F q cell
      → (k : ℕ) × (t ≡ k + 1) × (max s q ≤ k) × SlotHolds flags k (places e) s F q cell
  unfolding SlotReady
  slot_before_now flags cell h ne x = ⊎_elim
      (λ et. absurd (ne (omega arith)))
      (λ y. let et : t ≡ y.0 + 1 = y.1 in let sk : s ≤ y.0 = y.2 in
      let qk : q ≤ y.0 = elim (dec_lt y.0 q) [ yes l ↦ absurd (ne (omega arith)) | no l ↦ omega arith ] in
      (y.0, et, omega arith, y.3 qk))
      x

  module _ (deep : e.known < 5) (five : length e.pos ≡ 5) (five₂ : length e.bytes ≡ 5) (h : q ≤ t) where
    -- what part asks of the slot, started now or gone on
    position_was : (flags : ℕ → ℕ) (H : ℕ) → AtHand flags H hist b e t → max s q ≤ q + H → (start : ℕ) (cell mid : List ℕ) → start ≡ max s q → 4 ≤ length cell
        → (((c : ℕ) × (t ≡ start) × (mid ≡ set cell 1 c) × (c ≡ byte_of hist b t q) × (c < 256)) ⊎ ((t ≡ start → ⊥) × (mid ≡ cell)))
        → SlotReady flags t (places e) s F q cell
        → (get_or mid 1 0 % 256 ≡ flags q)
        × Before (max s q) t (λ j. CellHolds (own_tick (with_position (places e) q)) 0 (out flags j (with_position (places e) q) (max s q) F) (RunHolds flags j (with_position (places e) q) (max s q) F (window 4 (length mid) mid)) mid)
    unfolding SlotHolds
    position_was flags H hon near start cell mid es room x ready = ⊎_elim
        (λ n. (
          ap (λ (l : List ℕ). get_or l 1 0 % 256) n.2 ∙ ap (λ (m : ℕ). m % 256) (get_or-set_same cell 1 n.0 0 (omega arith)) ∙ mod-eq_of_lt n.4 ∙ n.3
              ∙ byte_right flags H hist b e t q hon h (subst (λ (m : ℕ). m ≤ q + H) (sym (n.1 ∙ es)) near),
          inl (n.1 ∙ es),
        ))
        (λ n.
        let y = slot_before_now flags cell h (λ z. n.0 (z ∙ sym es)) ready in
        rw (n.1, tail_take cell) (y.3.0, inr (y.0, y.1, y.2, y.3.1)))
        x

    pub position_of : (start : ℕ) (r : Outcome) (cell mid cell' : List ℕ) → start ≡ max s q → 4 ≤ length cell → 4 ≤ length mid
        → (((c : ℕ) × (t ≡ start) × (mid ≡ set cell 1 c) × (c ≡ byte_of hist b t q) × (c < 256)) ⊎ ((t ≡ start → ⊥) × (mid ≡ cell)))
        → PartAdvanced F hist b (with_byte e q (get_or mid 1 0 % 256)) start t 0 4 (length mid) mid r cell'
        → PositionAdvanced F hist b e s t q cell r cell'
    unfolding SlotHolds
    position_of start r cell mid cell' es room room2 x st = record {
      gives = λ flags H hon reach ready.
          let c : ℕ = get_or mid 1 0 % 256 in
          let st' : PartAdvanced F hist b (with_byte e q c) (max s q) t 0 4 (length mid) mid r cell' = rw es at st in
          let was = position_was flags H hon reach.0 start cell mid es room x ready in
          let pe : places (with_byte e q c) ≡ with_position (places e) q = places_entered e q c deep five five₂ in
          let y = st'.gives.1 flags H (at_hand_entered e q c deep five five₂ flags H hist b t hon was.0) (subst (λ (env : List ℕ). Reach H flags env (max s q) (formula_of F)) (sym pe) reach.1)
          (subst (λ (env : List ℕ). Before (max s q) t (λ j. CellHolds (own_tick env) 0 (out flags j env (max s q) F) (RunHolds flags j env (max s q) F (window 4 (length mid) mid)) mid)) (sym pe) was.1) in
          let r0 : r ≡ out flags t (with_position (places e) q) (max s q) F = y.0 ∙ ap (λ (env : List ℕ). out flags t env (max s q) F) pe in
          let h0 : CellHolds (own_tick (with_position (places e) q)) 0 (out flags t (with_position (places e) q) (max s q) F) (RunHolds flags t (with_position (places e) q) (max s q) F (window 4 (length mid) cell')) cell'
          = subst (λ (env : List ℕ). CellHolds (own_tick env) 0 (out flags t env (max s q) F) (RunHolds flags t env (max s q) F (window 4 (length mid) cell')) cell') pe y.1.0 in
          let w : window 4 (length mid) cell' ≡ drop 4 cell' = rest_take 4 (length mid) cell' (sym st'.gives.0.long) in (
            r0,
            (
              ap (λ (m : ℕ). m % 256) (st'.gives.0.other 1 (omega arith) (omega arith) (omega arith)) ∙ was.0,
              (h0.0, λ o. subst (RunHolds flags t (with_position (places e) q) (max s q) F) w (h0.1 o)),
            ),
          );
    }
