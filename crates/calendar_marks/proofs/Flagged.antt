-- A flag of a byte set in a word by shifts and `|`.
use mathlib.Core.Path.{◌≡◌, sym, ap, ◌∙◌, subst}
use mathlib.Core.Bool.{cond}
use Prim.Native.Nat.{ℕ, zero, suc, ◌*◌, ◌/◌, ◌%◌, ◌^◌, ◌≤◌, ◌<◌}
use native.Mathlib.Nat.{mod-lt, one-mul, zero-mul, zero-mod}
use native.Mathlib.Omega.{arith}
use native.Mathlib.Numerals.{one-add}
use lib.Dec.{eqb, lit<}
use lib.Pow.{shl_exact}
use lib.Bits.{bit_and, bit_or, and_mask, or_zero_r}
use Rattle.rule.specs.Meaning.{up}
use Rattle.calendar.specs.Calendar.{with_bit, flagged}
use Rattle.calendar.proofs.Marking.{or_bit}

-- `1 << i`
one_shl : (i : ℕ) → i < 64 → (1 * 2 ^ i) % 2 ^ 64 ≡ 2 ^ i
one_shl i h = shl_exact {a = 1} 1 i 64 (lit< tt) (subst (λ (x : ℕ). x ≤ 64) (sym (one-add i)) h) ∙ one-mul (2 ^ i)

-- `w | (((b >> k) & 1) << i)`
pub or_flagged : (w i b k : ℕ) → i < 64 → bit_or w ((bit_and (b / 2 ^ k) 1 * 2 ^ i) % 2 ^ 64) ≡ flagged i b k w
unfolding flagged up
or_flagged w i b k h =
    ap (λ (x : ℕ). bit_or w ((x * 2 ^ i) % 2 ^ 64)) (and_mask (b / 2 ^ k) 1) ∙ go (b / 2 ^ k % 2) (mod-lt (b / 2 ^ k) (lit< tt))
  where
    go : (r : ℕ) → r < 2 → bit_or w ((r * 2 ^ i) % 2 ^ 64) ≡ cond (eqb r 1) (with_bit i w) w
    go zero l = ap (λ (x : ℕ). bit_or w (x % 2 ^ 64)) (zero-mul (2 ^ i)) ∙ ap (bit_or w) (zero-mod (2 ^ 64)) ∙ or_zero_r w
    go (suc zero) l = ap (bit_or w) (one_shl i h) ∙ or_bit w i
    go (suc (suc r)) l = absurd (omega arith)
