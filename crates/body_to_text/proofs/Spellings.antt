-- The text of names, digits, offsets, bounds and flags, case by case as the code writes it.
use Prim.Native.Nat.{ℕ, zero, suc, ◌+◌, ◌-◌, ◌≤◌, ◌<◌}
use mathlib.Core.Path.{◌≡◌, refl}
use mathlib.Core.List.{List, [], ◌∷◌, ◌++◌, append-nil}
use native.Mathlib.Omega.{arith}
use lib.ListN.{get_or}
use lib.Dec.{ltb}
use mathlib.Core.Bool.{cond}
use mathlib.Core.Logic.{◌⊎◌, inl, inr}
use Rattle.std.proofs.lemmas.Bool.{cases_lt}
use borrow.Author.Tests.{lt-ltb, le-ltb, eq-eqb, ne_eqb}
use Rattle.rule.specs.Formula.{Formula}
use Rattle.rule.specs.Body.{signed}
use Rattle.nodes.specs.Table.{bound_at, bound_of}
use Rattle.notation.specs.Notation.{flag, infinity_word, monitor_sign, colon_sign, base_text, offset_text, end_text, formula_text, text}
use Rattle.notation.specs.Printing.{variable_name, digit_of, digits, offset_named, end_named, named, rule_named}

-- ---- digits

-- One digit after another, where the number has it.
abbrev pub if_worth : ℕ → ℕ → List ℕ
if_worth n worth = cond (ltb n worth) [] (digit_of n worth ∷ [])

pub all_digits : (n : ℕ) → if_worth n 1000 ++ (if_worth n 100 ++ (if_worth n 10 ++ (digit_of n 1 ∷ []))) ≡ digits n
unfolding digits
all_digits n = go (cases_lt n 10) (cases_lt n 100) (cases_lt n 1000)
  where
    go : (n < 10) ⊎ (10 ≤ n) → (n < 100) ⊎ (100 ≤ n) → (n < 1000) ⊎ (1000 ≤ n) → if_worth n 1000 ++ (if_worth n 100 ++ (if_worth n 10 ++ (digit_of n 1 ∷ []))) ≡ digits n
    go (inl a) b c = simp (lt-ltb n 10 a, lt-ltb n 100 (omega arith), lt-ltb n 1000 (omega arith))
    go (inr a) (inl b) c = simp (le-ltb n 10 a, lt-ltb n 100 b, lt-ltb n 1000 (omega arith))
    go (inr a) (inr b) (inl c) = simp (le-ltb n 10 a, le-ltb n 100 b, lt-ltb n 1000 c)
    go (inr a) (inr b) (inr c) = simp (le-ltb n 10 a, le-ltb n 100 b, le-ltb n 1000 c)

-- ---- offsets

pub offset_plus : (w : ℕ) → (w ≡ 0 → ⊥) → w < 32768 → 43 ∷ digits w ≡ offset_text (offset_named (signed w)) []
unfolding offset_text offset_named signed
offset_plus zero e h = absurd (e refl)
offset_plus (suc w) e h = simp (lt-ltb (suc w) 32768 h, append-nil)

pub offset_minus : (w n : ℕ) → 32768 ≤ w → n ≡ suc (65535 - w) → 45 ∷ digits n ≡ offset_text (offset_named (signed w)) []
unfolding offset_text offset_named signed
offset_minus w n h e = simp (le-ltb w 32768 h, append-nil, e)

-- ---- bounds

module _ (ns : List ℕ) (j : ℕ) where
  pub bound_origin : {w : ℕ} → get_or ns (j + 0) 0 ≡ 0 → w ≡ get_or ns (j + 2) 0 → 48 ∷ offset_text (offset_named (signed w)) [] ≡ end_text (end_named (bound_at ns j)) []
  unfolding bound_at bound_of end_named end_text base_text
  bound_origin e f = simp (eq-eqb (get_or ns (j + 0) 0) 0 e, f)

  pub bound_infinity : get_or ns (j + 0) 0 ≡ 1 → infinity_word ≡ end_text (end_named (bound_at ns j)) []
  unfolding bound_at bound_of end_named end_text base_text offset_text
  bound_infinity e = simp e

  pub bound_variable : {v w : ℕ} → (get_or ns (j + 0) 0 ≡ 0 → ⊥) → (get_or ns (j + 0) 0 ≡ 1 → ⊥) → v ≡ get_or ns (j + 1) 0 → w ≡ get_or ns (j + 2) 0
      → variable_name v ++ offset_text (offset_named (signed w)) [] ≡ end_text (end_named (bound_at ns j)) []
  unfolding bound_at bound_of end_named end_text base_text
  bound_variable a b e f = simp (ne_eqb (get_or ns (j + 0) 0) 0 a, ne_eqb (get_or ns (j + 0) 0) 1 b, e, f)

-- ---- a flag

pub flag_spelt : (v k d : ℕ) → k ≤ 7 → d ≡ digit_of k 1 → 64 ∷ (variable_name v ++ (46 ∷ d ∷ [])) ≡ formula_text (flag (variable_name v) (48 + k)) []
unfolding formula_text
flag_spelt v k d h e = let z : d ≡ 48 + k = omega (arith, e) in rw z

-- ---- the whole rule

pub rule_spelt : (F : Formula) → (monitor_sign ++ (120 ∷ colon_sign)) ++ formula_text (named 0 F) [] ≡ text (rule_named F)
unfolding text rule_named variable_name
rule_spelt F = refl
