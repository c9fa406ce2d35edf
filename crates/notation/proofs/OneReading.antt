-- "Every text has at most one reading", and `reading` finds it. Assumes nothing.
use Prim.Native.Nat.{ℕ, suc, ◌≤◌, ◌<◌}
use mathlib.Core.Path.{◌≡◌, refl, ap, sym, ◌∙◌, subst}
use mathlib.Core.Bool.{Bool, true, false, cond}
use mathlib.Core.List.{List, [], ◌∷◌, ◌++◌}
use native.Mathlib.Omega.{arith}
use lib.Dec.{leb}
use lib.ListN.{length, length-append}
use borrow.Author.Tests.{leb-true, le-leb}
use Rattle.refusal.specs.Answer.{refused, accepted}
use Rattle.refusal.proofs.Answers.{not_accepted, same_value, passed}
use Rattle.notation.specs.Notation.{Named, negate, forall, Rule, monitor, monitor_sign, colon_sign, in_sign, to_sign, end_text, formula_text, text, between, is_name, Spelt, SpeltRule, Reads}
use Rattle.notation.specs.Reading.{Got, none, got, and_read, starts, expect, read_name, Token, flag_token, negate_token, open_token, forall_token, read_token, Joint, joint, joined, second, read_parts, read_formula, formula_read, rule_colon, rule_name, rule_head, rule_at, whole_text, reading}
use Rattle.notation.proofs.Spelling.{stops, name_over, Gets, gets_bind, gets_expect, gets_name}
use Rattle.notation.proofs.Printed.{formula_over, formula_long, end_long}
use Rattle.notation.proofs.Sound.{Formulas, gets_formula, Heads, gets_head, joint_sign, gets_joint}

same_got : {A : Type 0} (a b : A) (s t : List ℕ) → got a s ≡ got b t → (a ≡ b) × (s ≡ t)
same_got a b s t e = (cc, cc)

-- ---- formulas: the text is uniquely decodable from the left, whatever follows

pub formula_back : (F : Named) (r : List ℕ) → Spelt F → formula_read (formula_text F r) ≡ got F r
unfolding formula_read
formula_back F r s = formula_over (suc (length (formula_text F r))) F r (omega (arith, formula_long F r)) s

-- ---- rules

pub rule_back : (N : Rule) → SpeltRule N → rule_at (text N) ≡ got N []
unfolding rule_at rule_head rule_name rule_colon text and_read expect starts stops between
rule_back (monitor n F) h = rw (name_over n (colon_sign ++ formula_text F []) h.0 refl, formula_back F [] h.1)

-- "Every text has at most one reading".
pub one_reading : (s : List ℕ) (M N : Rule) → Reads s M → Reads s N → M ≡ N
one_reading s M N m n = (same_got M N [] [] (sym (rule_back M m.0) ∙ ap rule_at (m.1 ∙ sym n.1) ∙ rule_back N n.0)).0

abbrev Rules : List ℕ → Rule → List ℕ → Type 0
Rules s (monitor n F) t = (is_name n ≡ true) × Spelt F × (s ≡ monitor_sign ++ (n ++ (colon_sign ++ formula_text F t)))

gets_rule : (s : List ℕ) → Gets (Rules s) (rule_at s)
unfolding rule_at rule_head rule_name rule_colon formula_read
gets_rule s =
    gets_bind (λ n v. (is_name n ≡ true) × (s ≡ monitor_sign ++ (n ++ (colon_sign ++ v)))) (Rules s) (rule_head s) _
    (gets_expect (λ n v. (is_name n ≡ true) × (s ≡ monitor_sign ++ (n ++ (colon_sign ++ v)))) monitor_sign s rule_name
    (λ t e. gets_bind (λ n u. (is_name n ≡ true) × (t ≡ n ++ u)) (λ n v. (is_name n ≡ true) × (s ≡ monitor_sign ++ (n ++ (colon_sign ++ v)))) (read_name t) rule_colon (gets_name t)
    (λ n u h. gets_expect (λ n v. (is_name n ≡ true) × (s ≡ monitor_sign ++ (n ++ (colon_sign ++ v)))) colon_sign u (λ v. got n v)
    (λ v x. (h.0, cc (e, h.1, x))))))
    (λ n v h. gets_bind (Formulas v) (Rules s) (formula_read v) (λ F w. got (monitor n F) w) (gets_formula (suc (length v)) v)
    (λ F w f. (h.0, f.0, cc (h.1, f.1))))

-- A text of at most 4,096 bytes that has a reading is read as it.
pub read_back : (s : List ℕ) (N : Rule) → length s ≤ 4096 → Reads s N → reading s ≡ accepted N
unfolding reading whole_text
read_back s N l h =
    let e : rule_at s ≡ got N [] = ap rule_at (sym h.1) ∙ rule_back N h.0 in
    rw (le-leb (length s) 4096 l, e)

whole_reads : (s : List ℕ) (x : Got Rule) (N : Rule) → Gets (Rules s) x → whole_text x ≡ accepted N → Reads s N
unfolding whole_text text
whole_reads s none N h e = absurd (not_accepted e)
whole_reads s (got (monitor n F) []) N h e = subst (Reads s) (same_value e) ((h.0, h.1), sym h.2)
whole_reads s (got M (c ∷ t)) N h e = absurd (not_accepted e)

-- What is read is a reading, and the text has at most 4,096 bytes.
pub reads : (s : List ℕ) (N : Rule) → reading s ≡ accepted N → (length s ≤ 4096) × Reads s N
unfolding reading
reads s N e =
    let p = passed (leb (length s) 4096) (whole_text (rule_at s)) 25 N e in
    (leb-true (length s) 4096 p.0, whole_reads s (rule_at s) N (gets_rule s) p.1)

-- Otherwise the answer is 25, and the text has no reading or is too long.
pub refused_reading : (s : List ℕ) (n : ℕ) → reading s ≡ refused n → (n ≡ 25) × (length s ≤ 4096 → (N : Rule) → Reads s N → ⊥)
unfolding reading whole_text
refused_reading s n e = (only_25 (leb (length s) 4096) (rule_at s) n e, λ l N h. not_accepted (sym e ∙ read_back s N l h))
  where
    only_25 : (b : Bool) (x : Got Rule) (n : ℕ) → cond b (whole_text x) (refused 25) ≡ refused n → n ≡ 25
    only_25 false x n e = cc
    only_25 true none n e = cc
    only_25 true (got N []) n e = absurd (not_accepted (sym e))
    only_25 true (got N (c ∷ t)) n e = cc

-- ---- the recursion without the number that ends it

any_number : (n k : ℕ) (s : List ℕ) → length s < n → length s < k → read_formula n s ≡ read_formula k s
any_number n k s i j = go (read_formula n s) (read_formula k s) refl refl (gets_formula n s) (gets_formula k s)
  where
    go : (x y : Got Named) → read_formula n s ≡ x → read_formula k s ≡ y → Gets (Formulas s) x → Gets (Formulas s) y → x ≡ y
    go none none a b g h = refl
    go (got F t) y a b g h =
        sym (formula_over k F t (omega (arith, formula_long F t, ap length g.1)) g.0) ∙ ap (read_formula k) (sym g.1) ∙ b
    go none (got F t) a b g h =
        sym a ∙ ap (read_formula n) h.1 ∙ formula_over n F t (omega (arith, formula_long F t, ap length h.1)) h.0

same_bind : {A B : Type 0} (P : A → List ℕ → Type 0) (x : Got A) (f g : A → List ℕ → Got B) → Gets P x → ((a : A) (t : List ℕ) → P a t → f a t ≡ g a t) → and_read x f ≡ and_read x g
unfolding and_read
same_bind P none f g h k = refl
same_bind P (got a t) f g h k = k a t h

parts_same : (n : ℕ) (T : Token) (t : List ℕ) → length t < n → read_parts (read_formula n) T t ≡ read_parts formula_read T t
unfolding read_parts formula_read second and_read
parts_same n (flag_token x k) t h = refl
parts_same n negate_token t h = ap (λ (y : Got Named). and_read y (λ F u. got (negate F) u)) (any_number n (suc (length t)) t h (omega arith))
parts_same n (forall_token x A B) t h = ap (λ (y : Got Named). and_read y (λ F u. got (forall x A B F) u)) (any_number n (suc (length t)) t h (omega arith))
parts_same n open_token t h =
    same_bind (Formulas t) (read_formula n t) _ _ (gets_formula n t)
    (λ F u f. same_bind (λ j v. u ≡ joint_sign j ++ v) (joint u) _ _ (gets_joint u)
    (λ j v e. second_same F j v (omega (arith, formula_long F u, ap length f.1, ap length e, length-append (joint_sign j) v))))
    ∙ ap (λ (y : Got Named). and_read y (λ F u. and_read (joint u) (second (λ s. read_formula (suc (length s)) s) F))) (any_number n (suc (length t)) t h (omega arith))
  where
    second_same : (F : Named) (j : Joint) (v : List ℕ) → length v < n → second (read_formula n) F j v ≡ second (λ s. read_formula (suc (length s)) s) F j v
    second_same F j v l = ap (λ (y : Got Named). and_read y (λ G t. expect (41 ∷ []) t (λ u. got (joined j F G) u))) (any_number n (suc (length v)) v l (omega arith))

-- A formula's text is shorter after its start.
pub head_shorter : (s : List ℕ) (T : Token) (t : List ℕ) → Heads s T t → length t < length s
head_shorter s (flag_token n k) t h = omega (arith, ap length h.2, length-append n (46 ∷ k ∷ t))
head_shorter s negate_token t h = omega (arith, ap length h)
head_shorter s open_token t h = omega (arith, ap length h)
head_shorter s (forall_token n A B) t h =
    omega (
      arith,
      ap length h.3,
      length-append n (in_sign ++ end_text A (to_sign ++ end_text B (colon_sign ++ t))),
      end_long A (to_sign ++ end_text B (colon_sign ++ t)),
      end_long B (colon_sign ++ t),
    )

pub formula_step : (s : List ℕ) → formula_read s ≡ and_read (read_token s) (read_parts formula_read)
unfolding formula_read read_formula
formula_step s =
    same_bind (Heads s) (read_token s) (read_parts (read_formula (length s))) (read_parts (λ t. read_formula (suc (length t)) t)) (gets_head s)
    (λ T t h. parts_same (length s) T t (head_shorter s T t h))
