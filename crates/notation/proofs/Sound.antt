-- What is read at the start of a text is spelt, and the text is its text and what follows.
use Prim.Native.Nat.{ℕ, zero, suc}
use mathlib.Core.Path.{◌≡◌, refl, ap, ◌∙◌}
use mathlib.Core.Bool.{true}
use mathlib.Core.List.{List, [], ◌∷◌, ◌++◌}
use lib.ListN.{drop}
use Rattle.notation.specs.Notation.{Base, position, Offset, plus, minus, End, end, Named, negate, forall, infinity_word, forall_sign, in_sign, colon_sign, to_sign, then_sign, beside_sign, base_text, offset_text, end_text, formula_text, letter, digit, same, is_name, is_numeral, SpeltBase, SpeltOffset, SpeltEnd, Spelt}
use Rattle.notation.specs.Reading.{Got, got, and_read, starts, run, past, read_name, read_numeral, one_digit, read_base, read_offset, read_end, Token, flag_token, negate_token, open_token, forall_token, flag_digit, flag_point, read_flag, forall_colon, forall_second, forall_to, forall_first, forall_range, read_forall, read_token, Joint, then_joint, beside_joint, joint, joined, second, read_parts, read_formula}
use Rattle.notation.proofs.Spelling.{starts_word, same_eq, run_past, Gets, gets_bind, gets_cond, gets_expect, gets_name, gets_numeral, gets_digit}

abbrev Offsets : List ℕ → Offset → List ℕ → Type 0
Offsets s o t = SpeltOffset o × (s ≡ offset_text o t)

gets_offset : (s : List ℕ) → Gets (Offsets s) (read_offset s)
unfolding read_offset offset_text
gets_offset s =
    gets_cond (Offsets s) (starts (43 ∷ []) s) _ _
    (λ e. gets_bind (λ d t. (is_numeral d ≡ true) × (drop 1 s ≡ d ++ t)) (Offsets s) (read_numeral (drop 1 s)) (λ d t. got (plus d) t) (gets_numeral (drop 1 s))
    (λ d t h. (h.0, starts_word (43 ∷ []) s e ∙ ap {B = List ℕ} (λ x. 43 ∷ x) h.1)))
    (λ _. gets_cond (Offsets s) (starts (45 ∷ []) s) _ _
    (λ e. gets_bind (λ d t. (is_numeral d ≡ true) × (drop 1 s ≡ d ++ t)) (Offsets s) (read_numeral (drop 1 s)) (λ d t. got (minus d) t) (gets_numeral (drop 1 s))
    (λ d t h. (h.0, starts_word (45 ∷ []) s e ∙ ap {B = List ℕ} (λ x. 45 ∷ x) h.1)))
    (λ _. (tt, refl)))

abbrev Bases : List ℕ → Base → List ℕ → Type 0
Bases s b t = SpeltBase b × (s ≡ base_text b t)

gets_base : (s : List ℕ) → Gets (Bases s) (read_base s)
unfolding read_base base_text
gets_base s =
    gets_cond (Bases s) (starts (48 ∷ []) s) _ _ (λ e. (tt, starts_word (48 ∷ []) s e))
    (λ _. gets_cond (Bases s) (same (run letter s) infinity_word) _ _
    (λ e. (tt, run_past letter s ∙ ap (λ (x : List ℕ). x ++ past letter s) (same_eq (run letter s) infinity_word e)))
    (λ _. gets_bind (λ n t. (is_name n ≡ true) × (s ≡ n ++ t)) (Bases s) (read_name s) (λ n t. got (position n) t) (gets_name s) (λ n t h. h)))

abbrev Ends : List ℕ → End → List ℕ → Type 0
Ends s E t = SpeltEnd E × (s ≡ end_text E t)

gets_end : (s : List ℕ) → Gets (Ends s) (read_end s)
unfolding read_end end_text
gets_end s =
    gets_bind (Bases s) (Ends s) (read_base s) (λ b t. and_read (read_offset t) (λ o u. got (end b o) u)) (gets_base s)
    (λ b t h. gets_bind (Offsets t) (Ends s) (read_offset t) (λ o u. got (end b o) u) (gets_offset t)
    (λ o u k. ((h.0, k.0), h.1 ∙ ap (base_text b) k.1)))

-- ---- a formula's text before its first part

abbrev pub Heads : List ℕ → Token → List ℕ → Type 0
Heads s (flag_token n k) t = (is_name n ≡ true) × (digit k ≡ true) × (s ≡ 64 ∷ (n ++ (46 ∷ k ∷ t)))
Heads s negate_token t = s ≡ 126 ∷ t
Heads s open_token t = s ≡ 40 ∷ t
Heads s (forall_token n A B) t =
    (is_name n ≡ true) × SpeltEnd A × SpeltEnd B × (s ≡ forall_sign ++ (n ++ (in_sign ++ end_text A (to_sign ++ end_text B (colon_sign ++ t)))))

gets_flag : (s r : List ℕ) → s ≡ 64 ∷ r → Gets (Heads s) (read_flag r)
unfolding read_flag flag_point flag_digit
gets_flag s r e =
    gets_bind (λ n t. (is_name n ≡ true) × (r ≡ n ++ t)) (Heads s) (read_name r) _ (gets_name r)
    (λ n t h. gets_expect (Heads s) (46 ∷ []) t _
    (λ u x. gets_bind (λ k v. (digit k ≡ true) × (u ≡ k ∷ v)) (Heads s) (one_digit u) (λ k v. got (flag_token n k) v) (gets_digit u)
    (λ k v g. (h.0, g.0, cc (e, h.1, x, g.1)))))

gets_forall : (s r : List ℕ) → s ≡ forall_sign ++ r → Gets (Heads s) (read_forall r)
unfolding read_forall forall_range forall_first forall_to forall_second forall_colon
gets_forall s r e =
    gets_bind (λ n t. (is_name n ≡ true) × (r ≡ n ++ t)) (Heads s) (read_name r) _ (gets_name r)
    (λ n t h. gets_expect (Heads s) in_sign t _
    (λ u x. gets_bind (Ends u) (Heads s) (read_end u) _ (gets_end u)
    (λ A v a. gets_expect (Heads s) to_sign v _
    (λ w y. gets_bind (Ends w) (Heads s) (read_end w) _ (gets_end w)
    (λ B p b. gets_expect (Heads s) colon_sign p (λ q. got (forall_token n A B) q)
    (λ q z. (h.0, a.0, b.0, cc (e, h.1, x, a.1, y, b.1, z))))))))

pub gets_head : (s : List ℕ) → Gets (Heads s) (read_token s)
unfolding read_token
gets_head s =
    gets_cond (Heads s) (starts (64 ∷ []) s) _ _ (λ e. gets_flag s (drop 1 s) (starts_word (64 ∷ []) s e))
    (λ _. gets_cond (Heads s) (starts (126 ∷ []) s) _ _ (λ e. starts_word (126 ∷ []) s e)
    (λ _. gets_cond (Heads s) (starts (40 ∷ []) s) _ _ (λ e. starts_word (40 ∷ []) s e)
    (λ _. gets_expect (Heads s) forall_sign s read_forall (λ t e. gets_forall s t e))))

abbrev pub joint_sign : Joint → List ℕ
joint_sign then_joint = then_sign
joint_sign beside_joint = beside_sign

pub gets_joint : (s : List ℕ) → Gets (λ j t. s ≡ joint_sign j ++ t) (joint s)
unfolding joint
gets_joint s =
    gets_cond (λ j t. s ≡ joint_sign j ++ t) (starts then_sign s) _ _ (λ e. starts_word then_sign s e)
    (λ _. gets_expect (λ j t. s ≡ joint_sign j ++ t) beside_sign s (λ t. got beside_joint t) (λ t e. e))

-- ---- formulas

abbrev pub Formulas : List ℕ → Named → List ℕ → Type 0
Formulas s F t = Spelt F × (s ≡ formula_text F t)

joined_formula : (j : Joint) (F G : Named) (s t : List ℕ) → Spelt F → Spelt G → s ≡ 40 ∷ formula_text F (joint_sign j ++ formula_text G (41 ∷ t)) → Formulas s (joined j F G) t
unfolding joined formula_text
joined_formula then_joint F G s t f g e = ((f, g), e)
joined_formula beside_joint F G s t f g e = ((f, g), e)

gets_parts : (part : List ℕ → Got Named) → ((s : List ℕ) → Gets (Formulas s) (part s)) → (s : List ℕ) (T : Token) (t : List ℕ) → Heads s T t
    → Gets (Formulas s) (read_parts part T t)
unfolding read_parts second formula_text
gets_parts part p s (flag_token n k) t h = ((h.0, h.1), h.2)
gets_parts part p s negate_token t h =
    gets_bind (Formulas t) (Formulas s) (part t) (λ F u. got (negate F) u) (p t) (λ F u f. (f.0, cc (h, f.1)))
gets_parts part p s open_token t h =
    gets_bind (Formulas t) (Formulas s) (part t) _ (p t)
    (λ F u f. gets_bind (λ j v. u ≡ joint_sign j ++ v) (Formulas s) (joint u) (second part F) (gets_joint u)
    (λ j v e. gets_bind (Formulas v) (Formulas s) (part v) _ (p v)
    (λ G w g. gets_expect (Formulas s) (41 ∷ []) w (λ x. got (joined j F G) x)
    (λ x y. joined_formula j F G s x f.0 g.0 (cc (h, f.1, e, g.1, y))))))
gets_parts part p s (forall_token n A B) t h =
    gets_bind (Formulas t) (Formulas s) (part t) (λ F u. got (forall n A B F) u) (p t) (λ F u f. ((h.0, h.1, h.2, f.0), cc (h.3, f.1)))

pub gets_formula : (n : ℕ) (s : List ℕ) → Gets (Formulas s) (read_formula n s)
unfolding read_formula
gets_formula zero s = tt
gets_formula (suc n) s = gets_bind (Heads s) (Formulas s) (read_token s) (read_parts (read_formula n)) (gets_head s) (gets_parts (read_formula n) (gets_formula n) s)
