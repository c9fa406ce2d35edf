-- The violations of a rule put into order at the start of a list are its complete report.
use Rattle.std.proofs.Common.{◌≡◌, ℕ, suc, ◌≤◌, Bool, true, false, cond, List, [], ◌∷◌, ◌++◌, length, take, drop, refl, sym, ap, ap₂, ◌∙◌, arith, le-leb}
use Rattle.std.specs.Prelude.{leb}
use Rattle.std.proofs.Math.Seq.{take-append_seam, drop-append_seam}
use Rattle.std.proofs.lemmas.List.{map-append, take-map, drop-map}
use Rattle.refusal.specs.Answer.{refused, accepted}
use Rattle.rule.specs.Formula.{Formula}
use Rattle.complete_report.specs.declared.Violation.{Violation}
use Rattle.complete_report.specs.Lists.{violation_in, violations_in}
use Rattle.complete_report.specs.Order.{before, insert, in_order}
use Rattle.complete_report.specs.Report.{complete, recorded_rule, if_room, delivered_report, with_front}
use Rattle.complete_report.specs.FalseSteps.{false_step}
use Rattle.complete_report.proofs.ByTick.{complete_by_tick}
use Rattle.recorded_rule.proofs.Admitted.{report_accepted, report_refused}
use Rattle.report_writing.specs.Collecting.{unordered}
use Rattle.report_writing.proofs.Collected.{few_violations}

-- ---- putting into order keeps the number of entries

length_insert : (v : Violation) (list : List Violation) → length (insert v list) ≡ suc (length list)
unfolding insert
length_insert v [] = refl
length_insert v (w ∷ list) = go (before w v) (length_insert v list)
  where
    go : (b : Bool) → length (insert v list) ≡ suc (length list) → length (cond b (w ∷ insert v list) (v ∷ (w ∷ list))) ≡ suc (suc (length list))
    go true e = ap suc e
    go false e = refl

pub length_in_order : (list : List Violation) → length (in_order list) ≡ length list
unfolding in_order
length_in_order [] = refl
length_in_order (v ∷ list) = length_insert v (in_order list) ∙ ap suc (length_in_order list)

-- ---- the room for the report

module _ (F : Formula) (rec : List ℕ) where
  -- A list with an entry for each tick has room for it.
  pub long_enough : (room : ℕ) → length rec ≤ room → true ≡ leb (length (unordered F rec)) room
  long_enough room h =
      let few : length (unordered F rec) ≤ length rec = few_violations (false_step F rec) (length rec) (length rec) 0 in
      sym (le-leb (length (unordered F rec)) room (omega arith))

  module _ (short : length rec ≤ 65535) where
    pub length_complete : length (complete F rec) ≡ length (unordered F rec)
    length_complete = ap length (complete_by_tick F rec short) ∙ length_in_order (unordered F rec)

    pub room_lacks : (room : ℕ) → leb (length (unordered F rec)) room ≡ false → if_room room (complete F rec) ≡ refused 22
    unfolding if_room
    room_lacks room h = rw (length_complete, h)

    pub room_is : (room : ℕ) → leb (length (unordered F rec)) room ≡ true → if_room room (complete F rec) ≡ accepted (complete F rec)
    unfolding if_room
    room_is room h = rw (length_complete, h)

    -- ---- the report in the list

    -- What lies in the list before and after the sort, which orders its first `count` entries.
    pub put_in_order : (old : List Violation) (count : ℕ) (collected sorted : List (List ℕ)) → count ≡ length (unordered F rec)
        → violations_in collected ≡ with_front (unordered F rec) old → violations_in sorted ≡ in_order (violations_in (take count collected))
        → violations_in (sorted ++ drop count collected) ≡ with_front (complete F rec) old
    put_in_order old count collected sorted n e s =
        map-append violation_in sorted (drop count collected)
        ∙ ap₂ (λ (x y : List Violation). x ++ y) (s ∙ ap in_order (sym (take-map violation_in count collected) ∙ first) ∙ sym (complete_by_tick F rec short))
        (sym (drop-map violation_in count collected) ∙ after ∙ ap (λ (k : ℕ). drop k old) (sym length_complete))
      where
        first : take count (violations_in collected) ≡ unordered F rec
        first = ap₂ (λ (k : ℕ) (l : List Violation). take k l) n e ∙ take-append_seam (unordered F rec) (drop (length (unordered F rec)) old)

        after : drop count (violations_in collected) ≡ drop (length (unordered F rec)) old
        after = ap₂ (λ (k : ℕ) (l : List Violation). drop k l) n e ∙ drop-append_seam (unordered F rec) (drop (length (unordered F rec)) old)

-- ---- a sheet's rule

module _ (sheet : List ℕ) (index : ℕ) (rec : List ℕ) (room : ℕ) where
  pub delivers : (F : Formula) → accepted F ≡ recorded_rule sheet index rec → if_room room (complete F rec) ≡ delivered_report sheet index rec room
  unfolding delivered_report
  delivers F e = report_accepted sheet index rec F (if_room room) e

  pub refuses : (number : ℕ) → refused number ≡ recorded_rule sheet index rec → refused number ≡ delivered_report sheet index rec room
  unfolding delivered_report
  refuses number e = report_refused sheet index rec number (if_room room) e
