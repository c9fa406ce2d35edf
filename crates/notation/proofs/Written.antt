-- Laws of writing into a lent buffer.
use Prim.Native.Nat.{ℕ}
use mathlib.Core.Path.{◌≡◌, refl}
use mathlib.Core.List.{List}
use Rattle.refusal.specs.Answer.{Answer, refused}
use Rattle.notation.specs.Bodies.{Writes}

pub writes_nothing : (x : Answer (List ℕ)) (n : ℕ) (out : List ℕ) → x ≡ refused n → Writes x (refused n) out out
writes_nothing x n out e = rw e (refl, refl)

pub writes_same : (x y : Answer (List ℕ)) (r : Answer ℕ) (out out' : List ℕ) → x ≡ y → Writes y r out out' → Writes x r out out'
writes_same x y r out out' e h = rw e h
