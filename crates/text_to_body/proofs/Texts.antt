-- A whole text: its start, and what is answered at the end.
use Prim.Native.Nat.{ℕ, ◌+◌, ◌≤◌, ◌<◌}
use mathlib.Core.Path.{◌≡◌, refl, ap, sym, ◌∙◌, subst}
use mathlib.Core.Bool.{Bool, true, ◌&&◌}
use mathlib.Core.List.{List, [], ◌∷◌, ◌++◌}
use native.Mathlib.Omega.{arith}
use lib.ListN.{length, drop, take, set, length-append, length-drop}
use lib.Seq.{length-take-le, get_or-set_same}
use borrow.Author.Tests.{le-leb, lt-leb}
use Rattle.refusal.specs.Answer.{refused, accepted, and_then}
use Rattle.refusal.proofs.Answers.{not_accepted, same_value}
use Rattle.notation.specs.Notation.{Named, monitor, monitor_sign, colon_sign, letter, is_name}
use Rattle.notation.specs.Reading.{Got, none, got, and_read, run, read_name, formula_read, rule_colon, rule_name, rule_head, rule_at, whole_text, reading}
use Rattle.notation.specs.Bodies.{formula_bytes, all_bound, named_body, translated, length_of, if_bound}
use Rattle.notation.proofs.Spelling.{Gets, gets_bind, gets_cond, gets_expect, name_least, run_past}
use Rattle.text_pieces.specs.Spots.{Found}
use Rattle.text_to_body.specs.Work.{read_on, finish, before_formula, after_formula, scope_of}
use Rattle.text_to_body.specs.declared.cursor.Mode.TheVariants.{Before, Whole}
use Rattle.text_to_body.specs.declared.cursor.Mode.{Mode}
use Rattle.text_to_body.specs.Cursors.{to_come, Translated}
use Rattle.text_to_body.specs.declared.cursor.Frame.{Frame}
use Rattle.std.specs.Prelude.{Some, None}
use Rattle.text_pieces.proofs.Finding.{found_some, found_none}

-- ---- the start

abbrev RuleStart : List ℕ → List ℕ → List ℕ → Type 0
RuleStart s n t = (n ≡ run letter (drop 8 s)) × (12 + length t ≤ length s)

gets_own : (t : List ℕ) → Gets (λ n u. (n ≡ run letter t) × (is_name n ≡ true) × (t ≡ n ++ u)) (read_name t)
unfolding read_name
gets_own t = gets_cond (λ n u. (n ≡ run letter t) × (is_name n ≡ true) × (t ≡ n ++ u)) (is_name (run letter t)) _ none (λ e. (refl, e, run_past letter t)) (λ e. tt)

gets_start : (s : List ℕ) → Gets (RuleStart s) (rule_head s)
unfolding rule_head rule_name rule_colon
gets_start s =
    gets_expect (RuleStart s) monitor_sign s rule_name
    (λ t e. gets_bind (λ n u. (n ≡ run letter t) × (is_name n ≡ true) × (t ≡ n ++ u)) (RuleStart s) (read_name t) rule_colon (gets_own t)
    (λ n u h. gets_expect (RuleStart s) colon_sign u (λ v. got n v)
    (λ v x. (h.0 ∙ ap (run letter) (sym (ap (drop 8) e)), omega (arith, ap length e, ap length h.2, length-append n u, name_least n h.1, ap length x)))))

module _ (s : List ℕ) where
  pub too_long : 4096 < length s → refused 25 ≡ translated s
  unfolding translated reading and_then
  too_long h = rw (lt-leb (length s) 4096 h)

  module _ (h : length s ≤ 4096) where
    pub no_start : Found s None (rule_head s) → refused 25 ≡ translated s
    unfolding translated reading rule_at and_read whole_text and_then
    no_start f = rw (le-leb (length s) 4096 h, found_none s (rule_head s) f)

    module _ (q : ℕ) (f : Found s (Some q) (rule_head s)) where
      own : (n : List ℕ) × (rule_head s ≡ got n (drop q s)) × (q ≤ length s)
      own = found_some s (rule_head s) q f

      start : RuleStart s own.0 (drop q s)
      start = subst (Gets (RuleStart s)) own.1 (gets_start s)

      pub start_inside : q ≤ length s
      start_inside = own.2

      pub start_least : 12 ≤ q
      start_least = omega (arith, start.1, length-drop q s, own.2)

      pub from_start : (frames : List Frame) → translated s ≡ before_formula 0 frames (run letter (drop 8 s) ∷ []) [] true (drop q s)
      unfolding translated reading rule_at and_read whole_text and_then before_formula read_on after_formula finish named_body
      from_start frames =
          rw (le-leb (length s) 4096 h, own.1, ← start.0) (go own.0 (formula_read (drop q s)))
        where
          go : (n : List ℕ) (x : Got Named)
              → and_then (whole_text (and_read x (λ F u. got (monitor n F) u))) named_body
              ≡ read_on x (λ F t. after_formula 0 frames (n ∷ []) ([] ++ formula_bytes (n ∷ []) F) (true && all_bound (n ∷ []) F) t)
          go n none = refl
          go n (got F []) = refl
          go n (got F (c ∷ t)) = refl

      -- .. from the first cursor, where the rule's own name is the one in scope.
      pub from_cursor : (frames : List Frame) (names out : List ℕ) → 0 < length names
          → translated s ≡ to_come Before 0 frames (scope_of s (set names 0 8) 1) (take 0 out) true (drop q s)
      unfolding to_come scope_of
      from_cursor frames names out l =
          from_start frames
          ∙ ap (λ (n : ℕ). before_formula 0 frames (run letter (drop n s) ∷ []) [] true (drop q s)) (sym (get_or-set_same names 0 8 0 l))

-- ---- the end

pub settled : (m : Mode) (d : ℕ) (frames : List Frame) (scope : List (List ℕ)) (l : List ℕ) (u : Bool) (s : List ℕ) → m ≡ Whole → to_come m d frames scope l u s ≡ if_bound u l
unfolding to_come
settled m d frames scope l u s e = rw e refl

-- A refused text has no body.
pub translated_none : (s out : List ℕ) (n : ℕ) → refused n ≡ translated s → Translated s (refused n) out
translated_none s out n e =
    record {
      answer = ap length_of e;
      bytes = λ b h. absurd (not_accepted (e ∙ h));
      room = λ b h. absurd (not_accepted (e ∙ h));
    }

-- A text whose bytes `l` stand at the start of `out`.
pub translated_all : (s out l : List ℕ) (n : ℕ) → translated s ≡ if_bound true l → l ≡ take n out → n ≤ length out → Translated s (accepted n) out
translated_all s out l n e f h =
    record {
      answer = ap accepted (sym m) ∙ ap length_of (sym e);
      bytes = λ b g. let i = same_value (sym e ∙ g) in ap (λ (k : ℕ). take k out) (sym (ap length i) ∙ m) ∙ sym f ∙ i;
      room = λ b g. omega (arith, h, m, ap length (same_value (sym e ∙ g)));
    }
  where
    m : length l ≡ n
    m = ap length f ∙ length-take-le n out h
