-- Lists whose first places are written one after another.
use Prim.Native.Nat.{ℕ, suc, ◌+◌, ◌<◌}
use mathlib.Core.Path.{◌≡◌, sym, ap, ◌∙◌}
use mathlib.Core.List.{List, ◌++◌, map, append-nil}
use native.Mathlib.Numerals.{add-one}
use native.Mathlib.Omega.{arith}
use lib.ListN.{length, get_or, take, drop, set, length-map, drop_of_length-le}
use lib.Seq.{drop-cons, set_at, length-take-le, append_snoc, take-suc, take-length}

-- The length of an array of structs in a struct, as what owning the struct tells of it: there the structs stand as tuples of their fields.
pub length_mapped : (X Y : Type 0) (f : X → Y) (l : List X) (n : ℕ) → length (map f l) ≡ n → length l ≡ n
length_mapped X Y f l n e = sym (length-map l f) ∙ e

-- The first n places are from `front`, the others from `whole`.
abbrev pub mixed : {A : Type 0} → List A → List A → ℕ → List A
mixed front whole n = take n front ++ drop n whole

pub mixed_next : {A : Type 0} (front whole : List A) (n : ℕ) (x : A) → n < length front → n < length whole
    → set (mixed front whole n) n (get_or front n x) ≡ mixed front whole (n + 1)
mixed_next {A} front whole n x inside within =
    ap (λ (rest : List A). set (take n front ++ rest) n (get_or front n x)) (drop-cons whole n x within)
    ∙ set_at (take n front) (get_or whole n x) (drop (suc n) whole) (get_or front n x) n (length-take-le n front (omega (arith, inside)))
    ∙ sym (append_snoc (take n front) (get_or front n x) (drop (suc n) whole))
    ∙ ap (λ (first : List A). first ++ drop (suc n) whole) (sym (take-suc front n x inside))
    ∙ ap (mixed front whole) (sym (add-one n))

pub mixed_turn : {A : Type 0} (front whole old new : List A) (n : ℕ) (x y : A) → n < length front → n < length whole
    → old ≡ mixed front whole n → new ≡ set old n y → y ≡ get_or front n x → new ≡ mixed front whole (n + 1)
mixed_turn {A} front whole old new n x y inside within so stored read =
    stored ∙ ap (λ (l : List A). set l n y) so ∙ ap (set (mixed front whole n) n) read ∙ mixed_next front whole n x inside within

-- All places are from `front`; and as many as it has.
pub mixed_whole : {A : Type 0} (front whole : List A) (n : ℕ) → length whole ≡ n → mixed front whole n ≡ take n front
mixed_whole {A} front whole n e =
    ap (λ (rest : List A). take n front ++ rest) (drop_of_length-le whole {i = n} (omega (arith, e))) ∙ append-nil (take n front)

pub mixed_front : {A : Type 0} (front whole : List A) (n : ℕ) → length front ≡ n → mixed front whole n ≡ front ++ drop (length front) whole
mixed_front {A} front whole n e =
    ap (mixed front whole) (sym e) ∙ ap (λ (first : List A). first ++ drop (length front) whole) (take-length front)
