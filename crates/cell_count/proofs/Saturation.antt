-- The count of 01's number is worked out from its parts' counts.
use Prim.Native.Nat.{ℕ, zero, suc, ◌*◌, ◌≤◌, ◌<◌, min, max}
use mathlib.Core.Path.{◌≡◌, refl, ap, ◌∙◌}
use mathlib.Core.Logic.{◌⊎◌, inl, inr}
use native.Mathlib.Omega.{arith}
use native.Mathlib.Nat.{mul_comm, zero-mul, mul-zero, le-mul_of_pos_right}
use Rattle.rule.specs.Figures.{larger, plus, times, needed}
use Rattle.rule.specs.declared.Size.{Size}
use Rattle.rule.specs.declared.Size.TheVariants.{Finite, Unbounded}
use Rattle.rule.proofs.Order.{by_order}
use Rattle.cell_count.specs.Counts.{cap, sum, product, then_cells, beside_cells, range_cells, rule_cells}

pub cap_most : (a : Size) → cap a ≤ 4097
cap_most (Finite n) = omega arith
cap_most Unbounded = omega arith

cap_larger : (a b : Size) → max (cap a) (cap b) ≡ cap (larger a b)
unfolding larger
cap_larger (Finite a) (Finite b) = omega arith
cap_larger (Finite a) Unbounded = omega arith
cap_larger Unbounded b = omega (arith, cap_most b)

cap_plus : (a b : Size) → sum (cap a) (cap b) ≡ cap (plus a b)
unfolding plus
cap_plus (Finite a) (Finite b) = omega arith
cap_plus (Finite a) Unbounded = omega arith
cap_plus Unbounded b = omega (arith, cap_most b)

grows : (a b : ℕ) → a ≤ a * suc b
grows a b = le-mul_of_pos_right a (omega arith)

cap_times : (a b : Size) → product (cap a) (cap b) ≡ cap (times a b)
unfolding times
cap_times (Finite zero) b = let e : 0 * cap b ≡ 0 = zero-mul (cap b) in omega arith
cap_times (Finite (suc a)) (Finite zero) = let e : min (suc a) 4097 * 0 ≡ 0 = mul-zero (min (suc a) 4097) in let f : suc a * 0 ≡ 0 = mul-zero (suc a) in omega arith
cap_times (Finite (suc a)) (Finite (suc b)) = go (by_order (suc a) 4097) (by_order (suc b) 4097)
  where
    go : (suc a ≤ 4097) ⊎ (4097 < suc a) → (suc b ≤ 4097) ⊎ (4097 < suc b) → min (min (suc a) 4097 * min (suc b) 4097) 4097 ≡ min (suc a * suc b) 4097
    go (inl i) (inl j) =
        let e : min (suc a) 4097 ≡ suc a = omega arith in
        let f : min (suc b) 4097 ≡ suc b = omega arith in
        rw (e, f)
    go (inl i) (inr j) =
        let e : min (suc a) 4097 ≡ suc a = omega arith in
        let f : min (suc b) 4097 ≡ 4097 = omega arith in
        rw (e, f) (omega (arith, grows (suc b) a, mul_comm (suc a) (suc b)))
    go (inr i) j =
        let e : min (suc a) 4097 ≡ 4097 = omega arith in
        rw e (omega (arith, grows (suc a) b))
cap_times (Finite (suc a)) Unbounded = omega arith
cap_times Unbounded (Finite zero) = let e : 4097 * 0 ≡ 0 = mul-zero 4097 in omega arith
cap_times Unbounded (Finite (suc b)) = omega arith
cap_times Unbounded Unbounded = refl

-- ---- 01, "Cells"

pub cap_then : (f g : Size) → then_cells (cap f) (cap g) ≡ cap (plus (Finite 1) (larger f g))
cap_then f g = ap (sum 1) (cap_larger f g) ∙ cap_plus (Finite 1) (larger f g)

pub cap_beside : (f g : Size) → beside_cells (cap f) (cap g) ≡ cap (plus (Finite 1) (plus f g))
cap_beside f g = ap (sum 1) (cap_plus f g) ∙ cap_plus (Finite 1) (plus f g)

pub cap_range : (w c : Size) → range_cells (cap w) (cap c) ≡ cap (plus (Finite 1) (times w (plus (Finite 1) c)))
cap_range w c =
    ap (λ (n : ℕ). sum 1 (product (cap w) n)) (cap_plus (Finite 1) c)
    ∙ ap (sum 1) (cap_times w (plus (Finite 1) c))
    ∙ cap_plus (Finite 1) (times w (plus (Finite 1) c))

pub cap_rule : (d : ℕ) (c : Size) → rule_cells d (cap c) ≡ cap (needed (Finite d) c)
unfolding needed plus
cap_rule d c =
    ap (product (cap (plus (Finite d) (Finite 1)))) (cap_plus (Finite 1) c) ∙ cap_times (plus (Finite d) (Finite 1)) (plus (Finite 1) c)

-- ---- within the limit, a count is the number itself

pub cap_is : (a : Size) (n : ℕ) → a ≡ Finite n → n ≤ 4096 → cap a ≡ n
cap_is a n e h = ap cap e ∙ least n h
  where
    least : (k : ℕ) → k ≤ 4096 → min k 4097 ≡ k
    least k g = omega arith
