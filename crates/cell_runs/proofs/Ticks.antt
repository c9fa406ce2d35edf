-- The sweep over the ticks that can be open, as facts on lists and outcomes.
use Prim.Native.Nat.{ℕ, suc, ◌+◌, ◌*◌, ◌-◌, ◌%◌, ◌≤◌, ◌<◌}
use mathlib.Core.Path.{◌≡◌, refl, sym, ap, ap₂, subst, ◌∙◌}
use mathlib.Core.Logic.{inl, inr, ◌≢◌}
use mathlib.Core.Bool.{Bool, cond}
use mathlib.Core.List.{List, [], ◌∷◌, ◌++◌}
use native.Mathlib.Omega.{arith}
use native.Mathlib.Nat.{mod-lt, mod_self, mod-eq_of_lt, mod-add-mod, add-sub_cancel_left}
use native.Mathlib.Decide.{dec_lt, ℕ_discrete}
use borrow.Author.Tests.{eq-eqb, ne_eqb}
use lib.Dec.{eqb}
use lib.ListN.{length, take, drop, length-append, length-drop}
use lib.Seq.{length-take-le}
use borrow.Rule.Slice.PartMut.{put_mid, drop_put, same_len_mid}
use Rattle.rule.specs.declared.Outcome.{Outcome}
use Rattle.rule.specs.Meaning.{rule}
use Rattle.rule.specs.Steps.{false_at, is_open, passing}
use Rattle.rule.specs.Started.{Before, Reach}
use Rattle.rule.proofs.Passing.{passing_last}
use Rattle.demand.proofs.Ring.{slots_differ}
use Rattle.outcomes.specs.Asked.{open_count}
use Rattle.cell_runs.specs.Tree.{Tree, formula_of}
use Rattle.cell_runs.specs.Slots.{slot}
use Rattle.cell_runs.specs.Calls.{FlagsAtHand}
use Rattle.cell_runs.specs.Instances.{InstanceHolds, InstanceMoved, tick_if_false, InstancesHold, TicksMoved, Spared}
use Rattle.cell_runs.proofs.Slots.{slot_same, slot_below, slot_above, slot_before, drop_far}
use Rattle.cell_runs.proofs.Reports.{count_one, report_more, keeps_more}

slot_other : (z : ℕ) (run ys : List ℕ) (j k : ℕ) → k ≢ j → j * z + z ≤ length run → length ys ≡ z → slot z k (put_mid (j * z) z run ys) ≡ slot z k run
slot_other z run ys j k ne g e = elim (dec_lt k j) [ yes l ↦ slot_below z run ys j k l (omega arith) | no l ↦ slot_above z run ys j k (omega (arith, ne)) g e ]

-- the ticks from `low` on that were moved
abbrev falses : Tree → (ℕ → ℕ) → ℕ → ℕ → ℕ → List ℕ
falses F flags t m low = passing (false_at t) (rule (formula_of F) flags t) m low

abbrev opens : Tree → (ℕ → ℕ) → ℕ → ℕ → ℕ → List ℕ
opens F flags t m low = passing is_open (rule (formula_of F) flags t) m low

-- m ticks from `low` on were moved: their slots hold, and the slots of those to come are as they were
pub record MovedTo (F : Tree) (n c : ℕ) (hist : List ℕ) (b t low : ℕ) (table₀ report₀ : List ℕ) (m reported live : ℕ) (table report : List ℕ) : Type 0 where
  pub gives :
      (flags : ℕ → ℕ) (H : ℕ) → FlagsAtHand flags H hist b t → ((p : ℕ) → Reach H flags (p ∷ []) p (formula_of F)) → InstancesHold F n c flags t table₀
      → (reported ≡ length (falses F flags t m low))
      × ((report ≡ falses F flags t m low ++ drop reported report₀)
      × ((live ≡ length (opens F flags t m low))
      × (((k : ℕ) → k < m → InstanceHolds flags F t (low + k) (slot c ((low + k) % n) table))
      × ((k : ℕ) → m ≤ k → low + k ≤ t → slot c ((low + k) % n) table ≡ slot c ((low + k) % n) table₀))))

module _ (F : Tree) (n c : ℕ) (hist : List ℕ) (b t low : ℕ) (table₀ report₀ : List ℕ) where
  pub moved_none : MovedTo F n c hist b t low table₀ report₀ 0 0 0 table₀ report₀
  unfolding passing
  moved_none = record { gives = λ flags H same reach found. (refl, (refl, (refl, ((λ k h. absurd (omega arith)), λ k h g. refl)))) }

  pub moved_all : (m reported live : ℕ) (table report : List ℕ) → m ≡ t + 1 - low → low ≡ t + 1 - n → MovedTo F n c hist b t low table₀ report₀ m reported live table report
      → TicksMoved F n c hist b t low table₀ report₀ reported live table report
  unfolding InstancesHold
  moved_all m reported live table report em el w = record {
    gives = λ flags H same reach found.
        let x : _ = rw em at (w.gives flags H same reach found) in (
          x.0,
          (
            x.1.0,
            (
              x.1.1.0,
              λ k p ek h g.
                  let et : k ≡ t = omega arith in
                  let e : low + (p - low) ≡ p = omega arith in
                  rw et (subst (λ (q : ℕ). InstanceHolds flags F t q (slot c (q % n) table)) e (x.1.1.1.0 (p - low) (omega arith))),
            ),
          ),
        );
  }

  module _ (m reported live : ℕ) (table report : List ℕ) (o : Outcome) (ys : List ℕ) where
    found_before : (flags : ℕ → ℕ) → low + m ≤ t → t < low + n → InstancesHold F n c flags t table₀ → slot c ((low + m) % n) table ≡ slot c ((low + m) % n) table₀
        → Before (low + m) t (λ k. InstanceHolds flags F k (low + m) (slot c ((low + m) % n) table))
    unfolding InstancesHold
    found_before flags h g found es = elim (dec_lt (low + m) t) [
      | no l ↦ inl (omega arith)
      | yes l ↦
          let et : t ≡ t - 1 + 1 = omega arith in
          inr (t - 1, et, omega arith, subst (λ (x : List ℕ). InstanceHolds flags F (t - 1) (low + m) x) (sym es) (found (t - 1) (low + m) et (omega arith) (omega arith)))
    ]

    moved_more' : (reported' live' : ℕ) (report' : List ℕ) → low + m ≤ t → t < low + n → 0 < n → n * c ≤ length table → length ys ≡ c
        → InstanceMoved F hist b t (low + m) (slot c ((low + m) % n) table) o ys
        → reported' ≡ reported + length (tick_if_false o t (low + m)) → report' ≡ take reported report ++ (tick_if_false o t (low + m) ++ drop reported' report) → live' ≡ live + open_count o
        → MovedTo F n c hist b t low table₀ report₀ m reported live table report
        → MovedTo F n c hist b t low table₀ report₀ (suc m) reported' live' (put_mid ((low + m) % n * c) c table ys) report'
    unfolding tick_if_false open_count
    moved_more' reported' live' report' h g some room len moved eb er el w = record {
      gives = λ flags H same reach found.
          let x = w.gives flags H same reach found in
          let y = moved.gives flags H same (reach (low + m)) (found_before flags h g found (x.1.1.1.1 m (omega arith) h)) in
          let jn : (low + m) % n < n = mod-lt (low + m) some in
          let fits : (low + m) % n * c + c ≤ n * c = slot_before c ((low + m) % n) n jn in
          let now : Outcome = rule (formula_of F) flags t (low + m) in
          let new : List ℕ = cond (false_at t o) ((low + m) ∷ []) [] in
          let eh : falses F flags t m low ++ new ≡ falses F flags t (suc m) low =
          ap (λ (q : Outcome). falses F flags t m low ++ cond (false_at t q) ((low + m) ∷ []) []) y.0 ∙ sym (passing_last (false_at t) (rule (formula_of F) flags t) m low) in
          let eo : live + cond (is_open o) 1 0 ≡ length (opens F flags t (suc m) low) =
          ap₂ (λ (k : ℕ) (q : Outcome). k + cond (is_open q) 1 0) x.1.1.0 y.0
          ∙ ap (λ (k : ℕ). length (opens F flags t m low) + k) (sym (count_one (is_open now) (low + m)))
          ∙ sym (length-append (opens F flags t m low) (cond (is_open now) ((low + m) ∷ []) []))
          ∙ ap length (sym (passing_last is_open (rule (formula_of F) flags t) m low)) in (
            eb ∙ ap (λ (k : ℕ). k + length new) x.0 ∙ sym (length-append (falses F flags t m low) new) ∙ ap length eh,
            (
              er ∙ report_more report₀ report reported (falses F flags t m low) new reported' x.0 x.1.0 eb ∙ ap (λ (l : List ℕ). l ++ drop reported' report₀) eh,
              (
                el ∙ eo,
                (
                  (λ k l. elim (dec_lt k m) [
                    | yes q ↦ subst (InstanceHolds flags F t (low + k)) (sym (slot_other c table ys ((low + m) % n) ((low + k) % n) (slots_differ n (low + k) (low + m) (omega arith) (omega arith)) (omega arith) len)) (x.1.1.1.0 k q)
                    | no q ↦
                        let e : k ≡ m = omega arith in
                        subst (λ (i : ℕ). InstanceHolds flags F t (low + i) (slot c ((low + i) % n) (put_mid ((low + m) % n * c) c table ys))) (sym e)
                        (subst (InstanceHolds flags F t (low + m)) (sym (slot_same c table ys ((low + m) % n) (omega arith) len)) y.1)
                  ]),
                  λ k l q.
                      slot_other c table ys ((low + m) % n) ((low + k) % n) (λ e. slots_differ n (low + m) (low + k) (omega arith) (omega arith) (sym e)) (omega arith) len
                      ∙ x.1.1.1.1 k (omega arith) q,
                ),
              ),
            ),
          );
    }

    pub moved_more : (p reported' live' : ℕ) (report' : List ℕ) → m ≡ p - low → low ≤ p → p ≤ t → t < low + n → 0 < n → n * c ≤ length table
        → length ys ≡ length (take (p % n * c + c - p % n * c) (drop (p % n * c) table))
        → InstanceMoved F hist b t p (take (p % n * c + c - p % n * c) (drop (p % n * c) table)) o ys
        → reported' ≡ reported + length (tick_if_false o t p) → report' ≡ take reported report ++ (tick_if_false o t p ++ drop reported' report) → live' ≡ live + open_count o
        → MovedTo F n c hist b t low table₀ report₀ m reported live table report
        → MovedTo F n c hist b t low table₀ report₀ (p + 1 - low) reported' live' (put_mid (p % n * c) (p % n * c + c - p % n * c) table ys) report'
    moved_more p reported' live' report' em h l g some room len moved eb er el w =
        let jn : p % n < n = mod-lt p some in
        let fits : p % n * c + c ≤ n * c = slot_before c (p % n) n jn in
        let d : length (drop (p % n * c) table) ≡ length table - p % n * c = length-drop (p % n * c) table in
        let es : p % n * c + c - p % n * c ≡ c = add-sub_cancel_left (p % n * c) c in
        let len' : length ys ≡ c = rw es at len ∙ length-take-le c (drop (p % n * c) table) (omega arith) in
        let ep : p ≡ low + m = omega arith in
        let en : p + 1 - low ≡ suc m = omega arith in
        let mv : InstanceMoved F hist b t p (slot c (p % n) table) o ys = rw es at moved in
        rw (es, en) (
        subst (λ (q : ℕ). MovedTo F n c hist b t low table₀ report₀ (suc m) reported' live' (put_mid (q % n * c) c table ys) report') (sym ep)
        (moved_more' reported' live' report' (omega arith) g some room len'
        (subst (λ (q : ℕ). InstanceMoved F hist b t q (slot c (q % n) table) o ys) ep mv)
        (subst (λ (q : ℕ). reported' ≡ reported + length (tick_if_false o t q)) ep eb)
        (subst (λ (q : ℕ). report' ≡ take reported report ++ (tick_if_false o t q ++ drop reported' report)) ep er) el w))

-- the loop's invariant: p is the next tick to be moved
pub record MovedUntil (F : Tree) (n c : ℕ) (hist : List ℕ) (b t low : ℕ) (table₀ report₀ : List ℕ) (p reported live : ℕ) (table report : List ℕ) : Type 0 where
  pub from_low : low ≤ p
  pub to_now : p ≤ t + 1
  pub few : reported ≤ p - low
  pub few_live : live ≤ p - low
  pub table_length : length table ≡ length table₀
  pub report_length : length report ≡ length report₀
  pub table_rest : drop (n * c) table ≡ drop (n * c) table₀
  pub report_rest : drop reported report ≡ drop reported report₀
  pub moved : MovedTo F n c hist b t low table₀ report₀ (p - low) reported live table report

-- the words after the slots stay
pub rest_more : (n c p : ℕ) (table ys : List ℕ) → 0 < n → n * c ≤ length table
    → length ys ≡ length (take (p % n * c + c - p % n * c) (drop (p % n * c) table))
    → drop (n * c) (put_mid (p % n * c) (p % n * c + c - p % n * c) table ys) ≡ drop (n * c) table
rest_more n c p table ys some room len =
    let jn : p % n < n = mod-lt p some in
    let fits : p % n * c + c ≤ n * c = slot_before c (p % n) n jn in
    let d : length (drop (p % n * c) table) ≡ length table - p % n * c = length-drop (p % n * c) table in
    let es : p % n * c + c - p % n * c ≡ c = add-sub_cancel_left (p % n * c) c in
    let len' : length ys ≡ p % n * c + c - p % n * c = len ∙ length-take-le (p % n * c + c - p % n * c) (drop (p % n * c) table) (omega arith) in
    drop_far (p % n * c + c) (n * c) (put_mid (p % n * c) (p % n * c + c - p % n * c) table ys) fits
    ∙ ap (drop (n * c - (p % n * c + c))) (drop_put (p % n * c) (p % n * c + c) table ys (omega arith) (omega arith) len')
    ∙ sym (drop_far (p % n * c + c) (n * c) table fits)

-- ---- the loop

-- a slot lies within the slots
pub slot_inside : (n c p len : ℕ) → 0 < n → n * c ≤ len → (p % n < n) × (p % n * c + c ≤ len)
slot_inside n c p len some room =
    let jn : p % n < n = mod-lt p some in
    let fits : p % n * c + c ≤ n * c = slot_before c (p % n) n jn in
    (jn, omega arith)

-- the next tick's slot: after the last comes the first
pub slot_next : (n p : ℕ) → 0 < n → (p + 1) % n ≡ cond (eqb (p % n + 1) n) 0 (p % n + 1)
slot_next n p some =
    let inside : p % n < n = mod-lt p some in
    sym (mod-add-mod p n 1) ∙ elim (ℕ_discrete (p % n + 1) n) [
      | yes e ↦ ap (λ (x : ℕ). x % n) e ∙ mod_self n ∙ sym (ap (λ (b : Bool). cond b 0 (p % n + 1)) (eq-eqb (p % n + 1) n e))
      | no e ↦ mod-eq_of_lt (omega arith) ∙ sym (ap (λ (b : Bool). cond b 0 (p % n + 1)) (ne_eqb (p % n + 1) n e))
    ]

module _ (F : Tree) (n c : ℕ) (hist : List ℕ) (b t low : ℕ) (table₀ report₀ : List ℕ) (oldest : low ≡ t + 1 - n) where
  pub until_none : MovedUntil F n c hist b t low table₀ report₀ low 0 0 table₀ report₀
  until_none =
      let e : low - low ≡ 0 = omega arith in
      record {
        from_low = omega arith;
        to_now = omega arith;
        few = omega arith;
        few_live = omega arith;
        table_length = refl;
        report_length = refl;
        table_rest = refl;
        report_rest = refl;
        moved = rw e (moved_none F n c hist b t low table₀ report₀);
      }

  module _ (some : 0 < n) (room : n * c ≤ length table₀) (words : n ≤ length report₀) where
    pub until_more : (p reported live : ℕ) (table report : List ℕ) (o : Outcome) (ys : List ℕ) (reported' one : ℕ) (report' : List ℕ) → p ≤ t
        → length ys ≡ length (take (p % n * c + c - p % n * c) (drop (p % n * c) table)) → length report' ≡ length report
        → InstanceMoved F hist b t p (take (p % n * c + c - p % n * c) (drop (p % n * c) table)) o ys
        → (reported' ≡ reported + length (tick_if_false o t p)) × (reported' ≤ reported + 1) → report' ≡ take reported report ++ (tick_if_false o t p ++ drop reported' report)
        → (one ≡ open_count o) × (one ≤ 1)
        → MovedUntil F n c hist b t low table₀ report₀ p reported live table report
        → MovedUntil F n c hist b t low table₀ report₀ (p + 1) reported' (live + one) (put_mid (p % n * c) (p % n * c + c - p % n * c) table ys) report'
    until_more p reported live table report o ys reported' one report' h ly lr moved eb er eo g =
        let lo : low ≤ p = g.from_low in
        let f : reported ≤ p - low = g.few in
        let fl : live ≤ p - low = g.few_live in
        let lt : length table ≡ length table₀ = g.table_length in
        let lre : length report ≡ length report₀ = g.report_length in
        let b1 : reported' ≤ reported + 1 = eb.1 in
        let o1 : one ≤ 1 = eo.1 in
        let room' : n * c ≤ length table = omega arith in
        record {
          from_low = omega arith;
          to_now = omega arith;
          few = omega arith;
          few_live = omega arith;
          table_length = same_len_mid (p % n * c) (p % n * c + c - p % n * c) table ys ly ∙ lt;
          report_length = lr ∙ lre;
          table_rest = rest_more n c p table ys some room' ly ∙ g.table_rest;
          report_rest = keeps_more report₀ report report' (tick_if_false o t p) reported reported' (omega arith) eb.0 er g.report_rest;
          moved =
              moved_more F n c hist b t low table₀ report₀ (p - low) reported live table report o ys p reported' (live + one) report'
              refl lo h (omega arith) some room' ly moved eb.0 er (ap (λ (k : ℕ). live + k) eo.0) g.moved;
        }

    pub until_all : (p reported live : ℕ) (table report : List ℕ) → t < p → MovedUntil F n c hist b t low table₀ report₀ p reported live table report
        → TicksMoved F n c hist b t low table₀ report₀ reported live table report × Spared n (n * c) table₀ report₀ reported live table report
    until_all p reported live table report h g =
        let hi : p ≤ t + 1 = g.to_now in
        let f : reported ≤ p - low = g.few in
        let fl : live ≤ p - low = g.few_live in (
          moved_all F n c hist b t low table₀ report₀ (p - low) reported live table report (omega arith) oldest g.moved,
          record { table_rest = g.table_rest; report_rest = g.report_rest; few = omega arith; few_live = omega arith },
        )
