-- A part of a run that is put back, and an outcome that is written in front of it. Lists only.
use Prim.Native.Nat.{ℕ, ◌-◌, ◌≤◌, ◌<◌}
use mathlib.Core.Path.{◌≡◌, refl, sym, ap, ◌∙◌}
use mathlib.Core.List.{List, ◌++◌, append-nil}
use native.Mathlib.Omega.{arith}
use native.Mathlib.Nat.{sub-eq-zero_of_le}
use native.Mathlib.Decide.{dec_lt}
use lib.ListN.{length, take, drop, get_or, length-drop, get_or-append, take-append-drop, drop_of_length-le}
use lib.Seq.{take_at, drop_at, length-take-le, get_or-take, drop-append-le, take-append-le, take_all}
use borrow.Rule.Slice.PartMut.{put_mid, drop_put}
use Rattle.rule.specs.declared.Outcome.{Outcome}
use Rattle.cells.specs.Cells.{mark}
use Rattle.cells.proofs.Marks.{mark_length, mark_drop, mark_other}
use Rattle.cell_runs.specs.Slots.{window}
use Rattle.cell_runs.specs.Calls.{Untouched}

-- a part from a to z, put back
module _ (run ys : List ℕ) (a z : ℕ) (start : a ≤ z) (end : z ≤ length run) (len : length ys ≡ z - a) where
  pub part_window : window a z (put_mid a (z - a) run ys) ≡ ys
  part_window =
      let g : a ≤ length run = omega arith in
      ap (take (z - a)) (drop_at (take a run) (ys ++ drop (z - a) (drop a run)) a (length-take-le a run g)) ∙ take_at ys (drop (z - a) (drop a run)) (z - a) len

  pub part_head : (n : ℕ) → n < a → get_or (put_mid a (z - a) run ys) n 0 ≡ get_or run n 0
  part_head n h =
      let e : length (take a run) ≡ a = length-take-le a run (omega arith) in
      get_or-append (take a run) (ys ++ drop (z - a) (drop a run)) 0 n (omega arith) ∙ get_or-take a run n 0 h

  cut : (b c : ℕ) (rest : List ℕ) → b ≤ c → c ≤ a → window b c (take a run ++ rest) ≡ window b c (take a run)
  cut b c rest h g =
      let l : length (take a run) ≡ a = length-take-le a run (omega arith) in
      let m : length (drop b (take a run)) ≡ length (take a run) - b = length-drop b (take a run) in
      ap (take (c - b)) (drop-append-le b (take a run) rest (omega arith)) ∙ take-append-le (c - b) (drop b (take a run)) rest (omega arith)

  pub part_front : (b c : ℕ) → c ≤ a → window b c (put_mid a (z - a) run ys) ≡ window b c run
  part_front b c g = elim (dec_lt c b) [
    | yes h ↦ rw (sub-eq-zero_of_le {n = c} {m = b} (omega arith)) refl
    | no h ↦
        let l : b ≤ c = omega arith in
        cut b c (ys ++ drop (z - a) (drop a run)) l g ∙ sym (cut b c (drop a run) l g) ∙ ap (window b c) (take-append-drop a run)
  ]

  pub part_back : drop z (put_mid a (z - a) run ys) ≡ drop z run
  part_back = drop_put a z run ys start end len

  -- and then an outcome written in front
  pub part_kept : (p k : ℕ) (r : Outcome) → k < 2 → 4 ≤ a → length (put_mid a (z - a) run ys) ≡ length run → Untouched k a z run (mark p k r (put_mid a (z - a) run ys))
  part_kept p k r h g l = record {
    long = mark_length p k r (put_mid a (z - a) run ys) ∙ l;
    other = λ n m q s. mark_other p k r (put_mid a (z - a) run ys) n q s ∙ part_head n m;
    front = λ b c m q. ap (take (c - b)) (mark_drop p k r (put_mid a (z - a) run ys) b (omega arith)) ∙ part_front b c q;
    back = mark_drop p k r (put_mid a (z - a) run ys) z (omega arith) ∙ part_back;
  }

pub same_kept : (k a z : ℕ) (run : List ℕ) → Untouched k a z run run
same_kept k a z run = record { long = refl; other = λ n m q s. refl; front = λ b c m q. refl; back = refl }

-- the words after the cell, put back
module _ (cell ys : List ℕ) (h : 4 ≤ length cell) where
  pub tail_drop : drop 4 (put_mid 4 (length cell - 4) cell ys) ≡ ys
  tail_drop =
      let g : length (drop 4 cell) ≡ length cell - 4 = length-drop 4 cell in
      let k : length (drop 4 cell) ≤ length cell - 4 = omega arith in
      drop_at (take 4 cell) (ys ++ drop (length cell - 4) (drop 4 cell)) 4 (length-take-le 4 cell h)
      ∙ ap (λ (l : List ℕ). ys ++ l) (drop_of_length-le (drop 4 cell) k) ∙ append-nil ys

  pub tail_head : (n : ℕ) → n < 4 → get_or (put_mid 4 (length cell - 4) cell ys) n 0 ≡ get_or cell n 0
  tail_head n g =
      let e : length (take 4 cell) ≡ 4 = length-take-le 4 cell h in
      get_or-append (take 4 cell) _ 0 n (omega arith) ∙ get_or-take 4 cell n 0 g

pub tail_take : (cell : List ℕ) → window 4 (length cell) cell ≡ drop 4 cell
tail_take cell =
    let d : length (drop 4 cell) ≡ length cell - 4 = length-drop 4 cell in
    take_all (length cell - 4) (drop 4 cell) (omega arith)

pub rest_take : (a z : ℕ) (run : List ℕ) → z ≡ length run → window a z run ≡ drop a run
rest_take a z run e =
    let d : length (drop a run) ≡ length run - a = length-drop a run in
    take_all (z - a) (drop a run) (omega arith)
