-- How much text a formula's start takes at least: more than its bytes in the body, and 19 bytes for a quantifier.
use Prim.Native.Nat.{ℕ, ◌+◌, ◌≤◌}
use mathlib.Core.Path.{◌≡◌, ap, subst}
use mathlib.Core.List.{List, ◌∷◌, ◌++◌}
use native.Mathlib.Omega.{arith}
use lib.ListN.{length, drop, length-drop, length-append}
use Rattle.notation.specs.Notation.{Base, origin, infinity, position, End, end, base_text, offset_text, end_text, in_sign, to_sign, colon_sign, SpeltBase, SpeltEnd}
use Rattle.notation.specs.Reading.{got, Token, flag_token, negate_token, open_token, forall_token, read_token, Joint, then_joint, beside_joint, joint}
use Rattle.notation.proofs.Spelling.{Gets, name_least}
use Rattle.notation.proofs.Printed.{offset_long}
use Rattle.notation.proofs.Sound.{Heads, gets_head, joint_sign, gets_joint}

abbrev pub cost : Token → ℕ
cost (flag_token n k) = 4
cost negate_token = 1
cost open_token = 1
cost (forall_token n A B) = 19

pub cost_least : (T : Token) → 1 ≤ cost T
cost_least (flag_token n k) = omega arith
cost_least negate_token = omega arith
cost_least open_token = omega arith
cost_least (forall_token n A B) = omega arith

base_least : (b : Base) (r : List ℕ) → SpeltBase b → 1 + length r ≤ length (base_text b r)
unfolding base_text
base_least origin r h = omega arith
base_least infinity r h = omega arith
base_least (position n) r h = omega (arith, name_least n h, length-append n r)

end_least : (E : End) (r : List ℕ) → SpeltEnd E → 1 + length r ≤ length (end_text E r)
unfolding end_text
end_least (end b o) r h = omega (arith, base_least b (offset_text o r) h.0, offset_long o r)

head_cost : (s : List ℕ) (T : Token) (t : List ℕ) → Heads s T t → cost T + length t ≤ length s
head_cost s (flag_token n k) t h = omega (arith, ap length h.2, length-append n (46 ∷ k ∷ t), name_least n h.0)
head_cost s negate_token t h = omega (arith, ap length h)
head_cost s open_token t h = omega (arith, ap length h)
head_cost s (forall_token n A B) t h =
    omega (
      arith,
      ap length h.3,
      length-append n (in_sign ++ end_text A (to_sign ++ end_text B (colon_sign ++ t))),
      name_least n h.0,
      end_least A (to_sign ++ end_text B (colon_sign ++ t)) h.1,
      end_least B (colon_sign ++ t) h.2,
    )

module _ (s : List ℕ) (at q : ℕ) (h : q ≤ length s) (k : at ≤ length s) where
  -- A formula's start ends so much further on.
  pub head_end : (T : Token) → read_token (drop at s) ≡ got T (drop q s) → at + cost T ≤ q
  head_end T e =
      let g = subst (Gets (Heads (drop at s))) e (gets_head (drop at s)) in
      omega (arith, head_cost (drop at s) T (drop q s) g, length-drop at s, length-drop q s)

  pub joint_ends : (j : Joint) → joint (drop at s) ≡ got j (drop q s) → at + 4 ≤ q
  joint_ends j e =
      let g : drop at s ≡ joint_sign j ++ drop q s = subst (Gets (λ j t. drop at s ≡ joint_sign j ++ t)) e (gets_joint (drop at s)) in
      omega (arith, ap length g, signs j, length-drop at s, length-drop q s)
    where
      signs : (j : Joint) → length (joint_sign j ++ drop q s) ≡ 4 + length (drop q s)
      signs then_joint = omega arith
      signs beside_joint = omega arith
