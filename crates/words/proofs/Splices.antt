-- What a list holds after bytes were stored in it from a position on. Assumes nothing.
use Prim.Native.Nat.{ℕ, ◌+◌, ◌≤◌}
use mathlib.Core.Path.{◌≡◌}
use mathlib.Core.List.{List, ◌++◌}
use native.Mathlib.Omega.{arith}
use lib.ListN.{length, take, drop, length-append, length-drop}
use lib.Seq.{length-take-le, take_at, drop_at}
use Rattle.words.specs.Words.{splice}

module _ (l : List ℕ) (i : ℕ) (vs : List ℕ) (fits : i + length vs ≤ length l) where
  length_head : length (take i l ++ vs) ≡ i + length vs
  length_head = let h : i ≤ length l = omega arith in simp length-append (rw (length-take-le i l h))

  pub take_splice : take (i + length vs) (splice l i vs) ≡ take i l ++ vs
  take_splice = take_at (take i l ++ vs) (drop (i + length vs) l) (i + length vs) length_head

  pub drop_splice : drop (i + length vs) (splice l i vs) ≡ drop (i + length vs) l
  drop_splice = drop_at (take i l ++ vs) (drop (i + length vs) l) (i + length vs) length_head

  pub length_splice : length (splice l i vs) ≡ length l
  length_splice =
      simp (length-append, length-drop) (let h : length (take i l) ≡ i = length-take-le i l (omega arith) in omega arith)
