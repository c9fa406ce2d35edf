-- What the states that the calls give stand for.
use Prim.Native.Nat.{ℕ, zero, suc, ◌-◌, ◌≤◌}
use mathlib.Core.Path.{◌≡◌, ap, ap₂, ◌∙◌}
use mathlib.Core.List.{List, ◌++◌}
use native.Mathlib.Nat.{sub-zero, zero-sub, suc-sub-suc}
use native.Mathlib.Omega.{arith}
use lib.ListN.{length, replicate, take, drop, length-append, length-replicate}
use lib.Seq.{take-length, take-append_seam}
use borrow.Author.Tests.{le-leb}
use Rattle.engine.specs.declared.state.State as code
use Rattle.demand.specs.Contract.{fresh_state}
use Rattle.engine.specs.States.{state_of, padded, fresh_code}

-- What is left of a row of equal bytes.
drop_replicate : (n m a : ℕ) → drop n (replicate m a) ≡ replicate (m - n) a
drop_replicate zero m a = rw sub-zero
drop_replicate (suc n) zero a = rw zero-sub
drop_replicate (suc n) (suc m) a = rw suc-sub-suc (drop_replicate n m a)

-- The fields with a body copied to the front of 512 bytes that are 0.
pub copied_is : (b bytes : List ℕ) (L : ℕ) → bytes ≡ take (length b) b ++ drop (length b) (replicate 512 0)
    → ◌≡◌ {A = code.State} (record { body = bytes; size = length b; opened = L; next = 0; live = 0 }) (fresh_code b L)
unfolding padded
copied_is b bytes L e =
    ap (λ (l : List ℕ). record { body = l; size = length b; opened = L; next = 0; live = 0 })
    (e ∙ ap₂ (λ (x y : List ℕ). x ++ y) (take-length b) (drop_replicate (length b) 512 0))

pub length_padded : (b : List ℕ) → length b ≤ 512 → length (padded b) ≡ 512
unfolding padded
length_padded b h = simp (length-append, length-replicate) (omega arith)

pub fresh_is : (b : List ℕ) (L : ℕ) → length b ≤ 512 → state_of (fresh_code b L) ≡ fresh_state b L
unfolding state_of padded
fresh_is b L h = simp (le-leb (length b) 512 h, take-append_seam b (replicate (512 - length b) 0))
