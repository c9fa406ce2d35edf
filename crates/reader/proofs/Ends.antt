-- Where a formula ends, or its refusal, by its head and its first byte.
use Prim.Native.Nat.{ℕ, ◌+◌, ◌-◌, ◌≤◌, ◌<◌}
use mathlib.Core.Path.{◌≡◌, refl, sym, ap, ◌∙◌}
use mathlib.Core.Logic.{◌⊎◌, inl, inr}
use mathlib.Core.List.{List}
use native.Mathlib.Omega.{arith}
use lib.ListN.{length}
use Rattle.words.specs.Words.{byte}
use Rattle.refusal.specs.Answer.{Answer, refused, accepted}
use Rattle.refusal.proofs.Answers.{same_value}
use Rattle.rule.specs.Formula.{Formula, negate, then, beside, forall}
use Rattle.rule.specs.Body.{Head, refuse, flag_head, negate_head, then_head, beside_head, forall_head, bound, after_code, head, Read, stop, read, one, two, parts, formula_at}
use Rattle.rule.proofs.Order.{by_order}
use Rattle.rule.proofs.Reading.{require_holds, bound_holds, formula_step, Advances, advances}
use Rattle.rule.proofs.Heads.{Only, Accepts, Tested, accepts_tested, accepts_reads, Positive, head_positive}
use Rattle.formula_bytes.specs.Checks.{head_number}
use Rattle.reader.specs.declared.Position.{Position}
use Rattle.reader.specs.Filled.{ending, formula_end}

pub head_accepts : (s : List ℕ) (at m left : ℕ) → head_number (head s at m left) ≡ 0 → Accepts (head s at m left)
head_accepts s at m left e = go (head s at m left) (head_positive s at m left) e
  where
    go : (h : Head) → Positive h → head_number h ≡ 0 → Accepts h
    go (refuse n) p e = omega arith
    go (flag_head v k) p e = tt
    go negate_head p e = tt
    go then_head p e = tt
    go beside_head p e = tt
    go (forall_head B₁ B₂) p e = tt

-- what a head without a refusal says of the bytes, the formulas left and the nesting
module _ (s : List ℕ) (at m left : ℕ) (e : 0 ≡ head_number (head s at m left)) where
  tested : Tested s at m left
  tested = accepts_tested s at m left (head_accepts s at m left (sym e))

  pub head_there : at < length s
  head_there = tested.there

  pub head_left : 1 ≤ left
  head_left = tested.some_left

  pub head_nested : byte s at ≡ 5 → m < 4
  head_nested = tested.nested

  pub head_two : (byte s at ≡ 1 → ⊥) → (byte s at ≡ 2 → ⊥) → (byte s at ≡ 5 → ⊥) → (3 ≤ byte s at) × (byte s at ≤ 4)
  head_two a b c = let f = tested in (omega (arith, f.known_low), omega (arith, f.known_high))

-- the same end
pub same_ends : {x y next rest : ℕ} → accepted (ending x y) ≡ accepted (ending next rest) → (x ≡ next) × (y ≡ rest)
same_ends e = let q = same_value e in (ap (λ (z : Position). z.at) q, ap (λ (z : Position). z.left) q)

pub refused_end : (s : List ℕ) (at m left n : ℕ) → n ≡ head_number (head s at m left) → (n ≡ 0 → ⊥) → refused n ≡ formula_end (formula_at s at m left)
unfolding parts
refused_end s at m left n e h = go (head s at m left) e (formula_step s at m left)
  where
    go : (g : Head) → n ≡ head_number g → formula_at s at m left ≡ parts (formula_at s) g at m (left - 1) → refused n ≡ formula_end (formula_at s at m left)
    go (refuse k) e x = ap refused e ∙ sym (ap formula_end x)
    go (flag_head v k) e x = absurd (h e)
    go negate_head e x = absurd (h e)
    go then_head e x = absurd (h e)
    go beside_head e x = absurd (h e)
    go (forall_head B₁ B₂) e x = absurd (h e)

one_end : (make : Formula → Formula) (r : Read) → formula_end (one make r) ≡ formula_end r
unfolding one
one_end make (stop n) = refl
one_end make (read F next left) = refl

-- what is left is less, and a part that was read
module _ (s : List ℕ) (at m left : ℕ) (a : Accepts (head s at m left)) where
  pub flag_end : byte s at ≡ 1 → accepted (ending (at + 3) (left - 1)) ≡ formula_end (formula_at s at m left)
  unfolding after_code parts
  flag_end e = sym (ap formula_end (accepts_reads (flag_head (byte s (at + 1)) (byte s (at + 2))) s at m left
      (rw e (require_holds (Only (flag_head (byte s (at + 1)) (byte s (at + 2)))) _ 6 _ tt (λ _. require_holds (Only (flag_head (byte s (at + 1)) (byte s (at + 2)))) _ 7 _ tt (λ _. refl)))) a))

  pub negate_end : byte s at ≡ 2 → formula_end (formula_at s (at + 1) m (left - 1)) ≡ formula_end (formula_at s at m left)
  unfolding after_code parts
  negate_end e = sym (ap formula_end (accepts_reads negate_head s at m left (rw e refl) a) ∙ one_end negate _)

  pub forall_end : byte s at ≡ 5 → formula_end (formula_at s (at + 9) (m + 1) (left - 1)) ≡ formula_end (formula_at s at m left)
  unfolding after_code parts
  forall_end e = sym (ap formula_end (accepts_reads (forall_head (bound s (at + 1)) (bound s (at + 5))) s at m left
      (rw e (bound_holds (Only (forall_head (bound s (at + 1)) (bound s (at + 5)))) s (at + 1) m _ (λ n. tt) (bound_holds (Only (forall_head (bound s (at + 1)) (bound s (at + 5)))) s (at + 5) m _ (λ n. tt) refl))) a)
      ∙ one_end (forall (bound s (at + 1)) (bound s (at + 5))) _)

  two_shape : 3 ≤ byte s at → byte s at ≤ 4 → (make : Formula → Formula → Formula) × (formula_at s at m left ≡ two make (λ next rest. formula_at s next m rest) (formula_at s (at + 1) m (left - 1)))
  unfolding after_code parts
  two_shape i j = go (by_order (byte s at) 3)
    where
      go : (byte s at ≤ 3) ⊎ (3 < byte s at) → (make : Formula → Formula → Formula) × (formula_at s at m left ≡ two make (λ next rest. formula_at s next m rest) (formula_at s (at + 1) m (left - 1)))
      go (inl k) = let e : byte s at ≡ 3 = omega arith in (then, accepts_reads then_head s at m left (rw e refl) a)
      go (inr k) = let e : byte s at ≡ 4 = omega arith in (beside, accepts_reads beside_head s at m left (rw e refl) a)

  module _ (i : 3 ≤ byte s at) (j : byte s at ≤ 4) {o : Answer Position} (e : o ≡ formula_end (formula_at s (at + 1) m (left - 1))) where
    pub first_refused : {n : ℕ} → o ≡ refused n → refused n ≡ formula_end (formula_at s at m left)
    unfolding two
    first_refused {n} x = go (formula_at s (at + 1) m (left - 1)) (sym x ∙ e) ∙ sym (ap formula_end (two_shape i j).1)
      where
        go : (r : Read) → refused n ≡ formula_end r → refused n ≡ formula_end (two (two_shape i j).0 (λ next rest. formula_at s next m rest) r)
        go (stop k) y = y
        go (read F next rest) y = let z : ◌≡◌ {A = ℕ} 0 1 = cc in absurd (omega arith)

    pub second_end : {x y : ℕ} → o ≡ accepted (ending x y) → formula_end (formula_at s x m y) ≡ formula_end (formula_at s at m left)
    unfolding two
    second_end {x} {y} g = go (formula_at s (at + 1) m (left - 1)) (sym g ∙ e) ∙ sym (ap formula_end (two_shape i j).1)
      where
        go : (r : Read) → accepted (ending x y) ≡ formula_end r → formula_end (formula_at s x m y) ≡ formula_end (two (two_shape i j).0 (λ next rest. formula_at s next m rest) r)
        go (stop k) h = let z : ◌≡◌ {A = ℕ} 0 1 = cc in absurd (omega arith)
        go (read F next rest) h =
            let u = (same_ends h).0 in
            let v = (same_ends h).1 in
            ap (λ (k : ℕ). formula_end (formula_at s k m y)) u ∙ ap (λ (k : ℕ). formula_end (formula_at s next m k)) v ∙ sym (one_end ((two_shape i j).0 F) (formula_at s next m rest))

    pub second_below : {x y : ℕ} → o ≡ accepted (ending x y) → y < left
    unfolding formula_at
    second_below {x} {y} g = go (formula_at s (at + 1) m (left - 1)) (advances _ s (at + 1) m (left - 1)) (sym g ∙ e)
      where
        go : (r : Read) → Advances s (at + 1) m (left - 1) r → accepted (ending x y) ≡ formula_end r → y < left
        go (stop k) w h = let z : ◌≡◌ {A = ℕ} 0 1 = cc in absurd (omega arith)
        go (read F next rest) w h = let v = (same_ends h).1 in omega (arith, w.2)
