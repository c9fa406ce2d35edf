-- How far from the rule's tick the pairs lie, inside at most 4 quantifiers whose offsets have 16 bits: no sum of the code can overflow.
use Prim.Native.Nat.{ℕ, zero, suc, ◌+◌, ◌*◌, ◌-◌, ◌≤◌, ◌<◌}
use mathlib.Core.Path.{◌≡◌, refl, sym, ap, ◌∙◌, subst}
use mathlib.Core.Logic.{◌⊎◌, inl, inr}
use mathlib.Core.Bool.{Bool, true, false, cond}
use mathlib.Core.List.{List, [], ◌∷◌, ◌++◌}
use native.Mathlib.Omega.{arith}
use lib.Dec.{ltb, eqb}
use lib.ListN.{get_or}
use lib.IntN.{ℤ, pos, negsuc, nat_abs}
use borrow.Author.Tests.{le-ltb, lt-ltb}
use Rattle.rule.specs.Formula.{Bound, origin, infinity, variable}
use Rattle.rule.specs.Body.{signed}
use Rattle.rule.specs.Figures.{shift, larger, anywhere, at_tick, bound_pair, N}
use Rattle.rule.specs.declared.Limit.{Limit}
use Rattle.rule.specs.declared.Limit.TheVariants.{Lowest, At, Highest}
use Rattle.rule.specs.declared.Size.{Size}
use Rattle.rule.specs.declared.Size.TheVariants.{Finite, Unbounded}
use Rattle.rule.specs.declared.Pair.{Pair}
use Rattle.rule.proofs.Order.{by_order}
use Rattle.nodes.specs.Table.{bound_of, bound_at}
use Rattle.figures.specs.Distances.{Near, NearPair, AllNear, farthest, Modest}
use Rattle.figures.proofs.Numbers.{bits, bits_are, abs_sum, abs_parts}

signed_abs : (w : ℕ) → nat_abs (signed w) ≤ 32768
unfolding signed
signed_abs w = go (by_order 32768 w)
  where
    high : 32768 ≤ w → nat_abs (negsuc (65535 - w)) ≤ 32768
    high h = omega arith

    go : (32768 ≤ w) ⊎ (w < 32768) → nat_abs (cond (ltb w 32768) (pos w) (negsuc (65535 - w))) ≤ 32768
    go (inl h) = rw (le-ltb w 32768 h) (high h)
    go (inr h) = rw (lt-ltb w 32768 h) (omega arith)

-- what is read back of an offset's bits
pub offset_bits : (n : ℤ) (x w : ℕ) → x ≡ w → n ≡ signed x → bits n ≡ signed w
offset_bits n x w e f = bits_are n (subst (λ (z : ℤ). nat_abs z ≤ 4000000) (sym f) (omega (arith, signed_abs x))) ∙ f ∙ ap signed e

pub offset_near : (n : ℤ) (w : ℕ) → n ≡ signed w → nat_abs (bits n) ≤ farthest
offset_near n w e = subst (λ (z : ℤ). nat_abs z ≤ farthest) (sym (offset_bits n w w refl e)) (omega (arith, signed_abs w))

near_more : {b d : ℕ} (l : Limit) → b ≤ d → Near b l → Near d l
near_more l h n = omega arith

near_shift : (b : ℕ) (l : Limit) (n : ℤ) → nat_abs n ≤ 32768 → Near b l → Near (b + 32768) (shift n l)
unfolding shift
near_shift b Lowest n h k = omega arith
near_shift b (At z) n h k = omega (arith, abs_sum z n)
near_shift b Highest n h k = omega arith

-- a bound with an offset of 16 bits
abbrev Short : Bound → Type 0
Short (origin n) = nat_abs n ≤ 32768
Short infinity = Unit {0}
Short (variable v n) = nat_abs n ≤ 32768

short_of : (kind v w : ℕ) → Short (bound_of kind v w)
unfolding bound_of
short_of kind v w = go (eqb kind 0) (eqb kind 1)
  where
    go : (a b : Bool) → Short (cond a (origin (signed w)) (cond b infinity (variable v (signed w))))
    go true b = signed_abs w
    go false true = tt
    go false false = signed_abs w

short_at : (ns : List ℕ) (j : ℕ) → Short (bound_at ns j)
unfolding bound_at
short_at ns j = short_of (get_or ns (j + 0) 0) (get_or ns (j + 1) 0) (get_or ns (j + 2) 0)

near_bound : (b : ℕ) (B : Bound) (ps : List Pair) → Short B → AllNear b ps → NearPair (b + 32768) (bound_pair B ps)
unfolding bound_pair
near_bound b (origin n) ps h w = (omega arith, omega arith)
near_bound b infinity ps h w = (omega arith, omega arith)
near_bound b (variable v n) ps h w = (near_shift b (get_or ps v anywhere).lower n h (w v).0, near_shift b (get_or ps v anywhere).upper n h (w v).1)

pub within_more : (b d : ℕ) (ps : List Pair) (r : Pair) → b ≤ d → AllNear b ps → NearPair d r → AllNear d (ps ++ (r ∷ []))
unfolding anywhere
within_more b d [] r h w n zero = n
within_more b d [] r h w n (suc v) = (omega arith, omega arith)
within_more b d (p ∷ ps) r h w n zero = (near_more p.lower h (w 0).0, near_more p.upper h (w 0).1)
within_more b d (p ∷ ps) r h w n (suc v) = within_more b d ps r h (λ x. w (suc x)) n v

-- at the start, only variable 0 is there, at the tick
pub first_within : AllNear 0 (at_tick ∷ [])
unfolding at_tick anywhere
first_within zero = (omega arith, omega arith)
first_within (suc v) = (omega arith, omega arith)

-- ---- sizes that are far from what a number can hold

pub modest_larger : (a b : Size) → Modest a → Modest b → Modest (larger a b)
unfolding larger
modest_larger (Finite a) (Finite b) h k = omega arith
modest_larger (Finite a) Unbounded h k = tt
modest_larger Unbounded b h k = tt

pub modest_delay : (u : Limit) → Near farthest u → Modest (N u)
unfolding N
modest_delay Lowest h = omega arith
modest_delay (At z) h = omega (arith, abs_parts z)
modest_delay Highest h = tt

-- a bound's pair lies at most an offset farther off than the pairs of the variables
pub bound_near : (ns : List ℕ) (m j : ℕ) (ps : List Pair) → AllNear (32768 * m) ps → (r : Pair) → r ≡ bound_pair (bound_at ns j) ps → NearPair (32768 * (m + 1)) r
bound_near ns m j ps w r e =
    let n : NearPair (32768 * m + 32768) (bound_pair (bound_at ns j) ps) = near_bound (32768 * m) (bound_at ns j) ps (short_at ns j) w in
    subst (NearPair (32768 * (m + 1))) (sym e) (omega arith, omega arith)
