-- The printer's text with a text that follows is its text alone, and then the other.
use Prim.Native.Nat.{ℕ}
use mathlib.Core.Path.{◌≡◌, refl, ap, sym, ◌∙◌}
use mathlib.Core.List.{List, [], ◌∷◌, ◌++◌, append_assoc, append-nil}
use Rattle.notation.specs.Notation.{Base, origin, infinity, position, Offset, nothing, plus, minus, End, end, Named, flag, negate, then, beside, forall, forall_sign, in_sign, to_sign, colon_sign, then_sign, beside_sign, base_text, offset_text, end_text, formula_text}
use Rattle.body_to_text.specs.Parts.{range_text}

base_follows : (b : Base) (r : List ℕ) → base_text b r ≡ base_text b [] ++ r
unfolding base_text
base_follows origin r = refl
base_follows infinity r = refl
base_follows (position n) r = sym (ap (λ (l : List ℕ). l ++ r) (append-nil n))

offset_follows : (o : Offset) (r : List ℕ) → offset_text o r ≡ offset_text o [] ++ r
unfolding offset_text
offset_follows nothing r = refl
offset_follows (plus d) r = sym (ap (λ (l : List ℕ). 43 ∷ (l ++ r)) (append-nil d))
offset_follows (minus d) r = sym (ap (λ (l : List ℕ). 45 ∷ (l ++ r)) (append-nil d))

pub end_follows : (E : End) (r : List ℕ) → end_text E r ≡ end_text E [] ++ r
unfolding end_text
end_follows (end b o) r =
    base_follows b (offset_text o r)
    ∙ ap (λ (l : List ℕ). base_text b [] ++ l) (offset_follows o r)
    ∙ sym (append_assoc (base_text b []) (offset_text o []) r)
    ∙ ap (λ (l : List ℕ). l ++ r) (sym (base_follows b (offset_text o [])))

-- A quantifier's part follows its range.
pub range_follows : (n : List ℕ) (A B : End) (r : List ℕ)
    → forall_sign ++ (n ++ (in_sign ++ end_text A (to_sign ++ end_text B (colon_sign ++ r)))) ≡ range_text n A B ++ r
unfolding range_text
range_follows n A B r =
    let a : List ℕ = end_text A [] in
    let b : List ℕ = end_text B [] in
    let rest : List ℕ = to_sign ++ (b ++ colon_sign) in
    ap (λ (l : List ℕ). forall_sign ++ (n ++ (in_sign ++ l)))
    (end_follows A (to_sign ++ end_text B (colon_sign ++ r))
    ∙ ap (λ (l : List ℕ). a ++ (to_sign ++ l)) (end_follows B (colon_sign ++ r) ∙ sym (append_assoc b colon_sign r))
    ∙ sym (append_assoc a rest r))
    ∙ ap (λ (l : List ℕ). forall_sign ++ l) (sym (append_assoc n (in_sign ++ (a ++ rest)) r))

-- Two parts with a sign between them and a bracket after them.
two_follow : (F G : Named) (s r : List ℕ)
    → ((t : List ℕ) → formula_text F t ≡ formula_text F [] ++ t) → ((t : List ℕ) → formula_text G t ≡ formula_text G [] ++ t)
    → formula_text F (s ++ formula_text G (41 ∷ r)) ≡ formula_text F (s ++ formula_text G (41 ∷ [])) ++ r
two_follow F G s r f g =
    let a : List ℕ = formula_text F [] in
    let b : List ℕ = formula_text G (41 ∷ []) in
    let e : formula_text G (41 ∷ r) ≡ b ++ r =
    g (41 ∷ r) ∙ sym (append_assoc (formula_text G []) (41 ∷ []) r) ∙ ap (λ (l : List ℕ). l ++ r) (sym (g (41 ∷ []))) in
    f (s ++ formula_text G (41 ∷ r))
    ∙ ap (λ (l : List ℕ). a ++ (s ++ l)) e
    ∙ ap (λ (l : List ℕ). a ++ l) (sym (append_assoc s b r))
    ∙ sym (append_assoc a (s ++ b) r)
    ∙ ap (λ (l : List ℕ). l ++ r) (sym (f (s ++ b)))

pub formula_follows : (F : Named) (r : List ℕ) → formula_text F r ≡ formula_text F [] ++ r
unfolding formula_text
formula_follows (flag n k) r = ap (λ (l : List ℕ). 64 ∷ l) (sym (append_assoc n (46 ∷ k ∷ []) r))
formula_follows (negate F) r = ap (λ (l : List ℕ). 126 ∷ l) (formula_follows F r)
formula_follows (then F G) r = ap (λ (l : List ℕ). 40 ∷ l) (two_follow F G then_sign r (λ t. formula_follows F t) (λ t. formula_follows G t))
formula_follows (beside F G) r = ap (λ (l : List ℕ). 40 ∷ l) (two_follow F G beside_sign r (λ t. formula_follows F t) (λ t. formula_follows G t))
formula_follows (forall n A B F) r =
    range_follows n A B (formula_text F r)
    ∙ ap (λ (l : List ℕ). range_text n A B ++ l) (formula_follows F r)
    ∙ sym (append_assoc (range_text n A B) (formula_text F []) r)
    ∙ ap (λ (l : List ℕ). l ++ r) (sym (range_follows n A B (formula_text F [])))
