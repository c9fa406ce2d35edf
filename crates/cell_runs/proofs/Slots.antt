-- A run as slots of z words each: a slot that is put back, and the others. Lists only.
use Prim.Native.Nat.{ℕ, ◌+◌, ◌*◌, ◌-◌, ◌≤◌, ◌<◌}
use mathlib.Core.Path.{◌≡◌, sym, ap, subst, ◌∙◌}
use mathlib.Core.List.{List, [], ◌++◌}
use native.Mathlib.Omega.{arith}
use native.Mathlib.Nat.{suc-mul, mul-le-mul_right, add-sub_cancel_left, add-sub_of_le}
use lib.ListN.{length, take, drop, length-drop, take-append-drop}
use lib.Seq.{take_at, drop_at, length-take-le, drop-append-le, take-append-le, drop-drop}
use borrow.Rule.Slice.PartMut.{put_mid, drop_put}
use Rattle.cell_runs.specs.Slots.{slot}

-- slot j ends where slot j + 1 begins, and no later than a slot after it begins
pub slot_before : (z j k : ℕ) → j < k → j * z + z ≤ k * z
slot_before z j k h = rw (← suc-mul j z) (mul-le-mul_right z h)

-- slot k of n, each of z words, has z
pub slot_length : (z n k : ℕ) (run : List ℕ) → k < n → n * z ≤ length run → length (take (k * z + z - k * z) (drop (k * z) run)) ≡ z
slot_length z n k run h room =
    let b : k * z + z ≤ n * z = slot_before z k n h in
    let d : length (drop (k * z) run) ≡ length run - k * z = length-drop (k * z) run in
    rw (add-sub_cancel_left (k * z) z) (length-take-le z (drop (k * z) run) (omega arith))

-- what lies after the first k words, by way of what lies after n of them
pub drop_far : (n k : ℕ) (l : List ℕ) → n ≤ k → drop k l ≡ drop (k - n) (drop n l)
drop_far n k l h = sym (drop-drop (k - n) n l ∙ ap (λ (m : ℕ). drop m l) (add-sub_of_le h))

module _ (z : ℕ) (run ys : List ℕ) where
  pub slot_same : (j : ℕ) → j * z ≤ length run → length ys ≡ z → slot z j (put_mid (j * z) z run ys) ≡ ys
  slot_same j h e =
      ap (take z) (drop_at (take (j * z) run) _ (j * z) (length-take-le (j * z) run h))
      ∙ take_at ys _ z e

  -- a slot below lies within what is kept in front
  front : (n k : ℕ) (rest : List ℕ) → n ≤ length run → k * z + z ≤ n
      → take z (drop (k * z) (take n run ++ rest)) ≡ take z (drop (k * z) (take n run))
  front n k rest h g =
      let l : length (take n run) ≡ n = length-take-le n run h in
      let m : length (drop (k * z) (take n run)) ≡ length (take n run) - k * z = length-drop (k * z) (take n run) in
      ap (take z) (drop-append-le (k * z) (take n run) rest (omega arith))
      ∙ take-append-le z (drop (k * z) (take n run)) rest (omega arith)

  pub slot_below : (j k : ℕ) → k < j → j * z ≤ length run → slot z k (put_mid (j * z) z run ys) ≡ slot z k run
  slot_below j k h g =
      front (j * z) k _ g (slot_before z k j h)
      ∙ sym (front (j * z) k (drop (j * z) run) g (slot_before z k j h))
      ∙ ap (λ (l : List ℕ). take z (drop (k * z) l)) (take-append-drop (j * z) run)

  pub slot_above : (j k : ℕ) → j < k → j * z + z ≤ length run → length ys ≡ z → slot z k (put_mid (j * z) z run ys) ≡ slot z k run
  slot_above j k h g e =
      ap (take z)
      (drop_far (j * z + z) (k * z) (put_mid (j * z) z run ys) (slot_before z j k h)
      ∙ ap (drop (k * z - (j * z + z))) back
      ∙ sym (drop_far (j * z + z) (k * z) run (slot_before z j k h)))
    where
      back : drop (j * z + z) (put_mid (j * z) z run ys) ≡ drop (j * z + z) run
      back = subst (λ (n : ℕ). drop (j * z + z) (put_mid (j * z) n run ys) ≡ drop (j * z + z) run) (add-sub_cancel_left (j * z) z)
          (drop_put (j * z) (j * z + z) run ys (omega arith) g (e ∙ sym (add-sub_cancel_left (j * z) z)))

-- a slot within the first n words
pub slot_front : (z : ℕ) (run : List ℕ) (n k : ℕ) → n ≤ length run → k * z + z ≤ n → slot z k (take n run) ≡ slot z k run
slot_front z run n k h g = sym (front z run [] n k (drop n run) h g) ∙ ap (λ (l : List ℕ). take z (drop (k * z) l)) (take-append-drop n run)
