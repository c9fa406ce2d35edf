-- What an accepted body shows: its formula is legal, has at most 64 formulas, and the body is the formula's bytes. Assumes only that bytes are
-- below 256, for the last.
use Prim.Native.Nat.{ℕ, zero, suc, ◌+◌, ◌-◌, ◌≤◌, ◌<◌}
use mathlib.Core.Path.{◌≡◌, refl, sym, ◌∙◌, subst}
use mathlib.Core.Bool.{not, ◌&&◌, ◌||◌}
use mathlib.Core.List.{List, ◌∷◌, ◌++◌, append_assoc, append-nil}
use native.Mathlib.Omega.{arith}
use native.Mathlib.Numerals.{add-one}
use lib.Dec.{leb, ltb, eqb}
use lib.ListN.{length, drop}
use lib.Seq.{drop-length}
use borrow.Author.Tests.{leb-true, eqb-true, eqb-false}
use Rattle.words.specs.Words.{byte, Bytes}
use Rattle.refusal.specs.Answer.{accepted}
use Rattle.refusal.proofs.Answers.{not_accepted, same_value}
use Rattle.refusal.proofs.Answers as answers
use Rattle.rule.specs.Formula.{Formula, negate, then, beside, forall, formulas}
use Rattle.rule.specs.Body.{Head, refuse, flag_head, negate_head, then_head, beside_head, forall_head, fixed, after_code, head, bound, Read, stop, read, one, two, parts, formula, formula_at, whole, body}
use Rattle.rule.proofs.Reading.{require_holds, cond_holds}
use Rattle.rule.proofs.Heads.{Tested, Passed, head_passed, flag_room, forall_room}
use Rattle.rule.proofs.Written.{bound_bytes, formula_bytes, LegalBound, Legal, one_byte, more_bytes, TestedBound, bound_tested, bound_legal, bound_written}

-- ---- a formula's own bytes

-- What holds of refusals, and of the contents after the tests before them, holds of a head.
from_tested : (P : Head → Type 0) (s : List ℕ) (at m left : ℕ) (h : Head) → ((n : ℕ) → P (refuse n)) → (Tested s at m left → P h) → Passed s at m left h → P h
from_tested P s at m left (refuse n) r k t = r n
from_tested P s at m left (flag_head v b) r k t = k t
from_tested P s at m left negate_head r k t = k t
from_tested P s at m left then_head r k t = k t
from_tested P s at m left beside_head r k t = k t
from_tested P s at m left (forall_head A B) r k t = k t

head_holds : (P : Head → Type 0) (s : List ℕ) (at m left : ℕ) → ((n : ℕ) → P (refuse n)) → (Tested s at m left → P (after_code s at m)) → P (head s at m left)
unfolding head
head_holds P s at m left r k =
    require_holds Q (ltb at (length s)) 4 _ (λ _. r 4)
    (λ _. require_holds Q (leb 1 c && leb c 5) 5 _ (λ _. r 5)
    (λ _. require_holds Q (leb 1 left) 9 _ (λ _. r 9)
    (λ _. require_holds Q (not (eqb c 5) || ltb m 4) 9 _ (λ _. r 9)
    (λ _. require_holds Q (leb (at + fixed c) (length s)) 4 _ (λ _. r 4)
    (λ _. from_tested P s at m left (after_code s at m) r k)))))
    (head_passed s at m left)
  where
    c : ℕ
    c = byte s at

    Q : Head → Type 0
    Q h = Passed s at m left h → P h

-- What an accepted head shows of the bytes that it stands for.
abbrev Shown : List ℕ → ℕ → ℕ → ℕ → Head → Type 0
Shown s at m left (refuse n) = Unit {0}
Shown s at m left (flag_head v k) = (1 ≤ left) × (v ≤ m) × (k ≤ 7) × (drop at s ≡ 1 ∷ v ∷ k ∷ drop (at + 3) s)
Shown s at m left negate_head = (1 ≤ left) × (drop at s ≡ 2 ∷ drop (at + 1) s)
Shown s at m left then_head = (1 ≤ left) × (drop at s ≡ 3 ∷ drop (at + 1) s)
Shown s at m left beside_head = (1 ≤ left) × (drop at s ≡ 4 ∷ drop (at + 1) s)
Shown s at m left (forall_head A B) =
    (1 ≤ left) × (m < 4) × LegalBound m A × LegalBound m B × (Bytes s → drop at s ≡ 5 ∷ (bound_bytes A ++ (bound_bytes B ++ drop (at + 9) s)))

module _ (s : List ℕ) (at m left : ℕ) (t : Tested s at m left) where
  code_shown : (c : ℕ) → byte s at ≡ c → drop at s ≡ c ∷ drop (at + 1) s
  code_shown c e =
      let h = t.there in
      rw (← e) (one_byte s at (omega arith))

  flag_shown : byte s at ≡ 1 → drop at s ≡ 1 ∷ byte s (at + 1) ∷ byte s (at + 2) ∷ drop (at + 3) s
  flag_shown e =
      let h = flag_room t e in
      rw (code_shown 1 e, more_bytes s at 1 2 refl (omega arith), more_bytes s at 2 3 refl h)

  forall_shown : byte s at ≡ 5 → TestedBound s (at + 1) m → TestedBound s (at + 5) m → Bytes s
      → drop at s ≡ 5 ∷ (bound_bytes (bound s (at + 1)) ++ (bound_bytes (bound s (at + 5)) ++ drop (at + 9) s))
  forall_shown e a b bs =
      let h = forall_room t e in
      let x : at + 1 + 4 ≡ at + 5 = omega arith in
      let y : at + 5 + 4 ≡ at + 9 = omega arith in
      let first = subst (λ n. drop (at + 1) s ≡ bound_bytes (bound s (at + 1)) ++ drop n s) x (bound_written s (at + 1) m bs a (omega arith)) in
      let second = subst (λ n. drop (at + 5) s ≡ bound_bytes (bound s (at + 5)) ++ drop n s) y (bound_written s (at + 5) m bs b (omega arith)) in
      rw (code_shown 5 e, first, second)

  contents_shown : Shown s at m left (after_code s at m)
  unfolding after_code
  contents_shown =
      cond_holds P (eqb c 1) _ _
      (λ e. require_holds P (leb (byte s (at + 1)) m) 6 _ tt
      (λ x. require_holds P (leb (byte s (at + 2)) 7) 7 _ tt
      (λ y. (l, leb-true _ _ x, leb-true _ _ y, flag_shown (eqb-true c 1 e)))))
      (λ e₁. cond_holds P (eqb c 2) _ _ (λ e. (l, code_shown 2 (eqb-true c 2 e)))
      (λ e₂. cond_holds P (eqb c 3) _ _ (λ e. (l, code_shown 3 (eqb-true c 3 e)))
      (λ e₃. cond_holds P (eqb c 4) _ _ (λ e. (l, code_shown 4 (eqb-true c 4 e)))
      (λ e₄.
      let f : byte s at ≡ 5 = omega (arith, t.known_low, t.known_high, eqb-false c 1 e₁, eqb-false c 2 e₂, eqb-false c 3 e₃, eqb-false c 4 e₄) in
      bound_tested P s (at + 1) m _ (λ n. tt) (λ a. bound_tested P s (at + 5) m _ (λ n. tt)
      (λ b. (l, t.nested f, bound_legal s (at + 1) m a, bound_legal s (at + 5) m b, forall_shown f a b)))))))
    where
      c : ℕ
      c = byte s at

      l : 1 ≤ left
      l = t.some_left

      P : Head → Type 0
      P = Shown s at m left

head_shown : (s : List ℕ) (at m left : ℕ) → Shown s at m left (head s at m left)
head_shown s at m left = head_holds (Shown s at m left) s at m left (λ n. tt) (contents_shown s at m left)

-- ---- a formula that was read, with its parts

abbrev Stands : List ℕ → ℕ → ℕ → ℕ → Read → Type 0
Stands s at m left (stop n) = Unit {0}
Stands s at m left (read F next rest) = Legal m F × (formulas F + rest ≤ left) × (Bytes s → drop at s ≡ formula_bytes F ++ drop next s)

one_stands : (s : List ℕ) (make : Formula → Formula) (at m left at' m' left' : ℕ) (r : Read)
    → ((F : Formula) (next rest : ℕ) → Stands s at' m' left' (read F next rest) → Stands s at m left (read (make F) next rest))
    → Stands s at' m' left' r → Stands s at m left (one make r)
unfolding one
one_stands s make at m left at' m' left' (stop n) h k = tt
one_stands s make at m left at' m' left' (read F next rest) h k = h F next rest k

two_stand : (s : List ℕ) (make : Formula → Formula → Formula) (at m left at' left' : ℕ) (second : ℕ → ℕ → Read) (r : Read)
    → ((F G : Formula) (next rest next' rest' : ℕ) → Stands s at' m left' (read F next rest) → Stands s next m rest (read G next' rest')
    → Stands s at m left (read (make F G) next' rest'))
    → ((next rest : ℕ) → Stands s next m rest (second next rest)) → Stands s at' m left' r → Stands s at m left (two make second r)
unfolding two
two_stand s make at m left at' left' second (stop n) h l k = tt
two_stand s make at m left at' left' second (read F next rest) h l k =
    one_stands s (make F) at m left next m rest (second next rest) (λ G next' rest'. h F G next rest next' rest' k) (l next rest)

parts_stand : (s : List ℕ) (part : ℕ → ℕ → ℕ → Read) → ((at m left : ℕ) → Stands s at m left (part at m left))
    → (h : Head) (at m left : ℕ) → Shown s at m left h → Stands s at m left (parts part h at m (left - 1))
unfolding parts formula_bytes formulas
parts_stand s part p (refuse n) at m left f = tt
parts_stand s part p (flag_head v k) at m left f = ((f.1, f.2), omega arith, λ b. f.3)
parts_stand s part p negate_head at m left f =
    one_stands s negate at m left (at + 1) m (left - 1) (part (at + 1) m (left - 1))
    (λ F next rest k. (k.0, omega (arith, f.0, k.1), λ b. rw (f.1, k.2 b))) (p (at + 1) m (left - 1))
parts_stand s part p then_head at m left f =
    two_stand s then at m left (at + 1) (left - 1) (λ next rest. part next m rest) (part (at + 1) m (left - 1))
    (λ F G next rest next' rest' k l. (
      (k.0, l.0),
      omega (arith, f.0, k.1, l.1),
      λ b. rw (f.1, k.2 b, l.2 b, append_assoc (formula_bytes F) (formula_bytes G) (drop next' s)),
    ))
    (λ next rest. p next m rest) (p (at + 1) m (left - 1))
parts_stand s part p beside_head at m left f =
    two_stand s beside at m left (at + 1) (left - 1) (λ next rest. part next m rest) (part (at + 1) m (left - 1))
    (λ F G next rest next' rest' k l. (
      (k.0, l.0),
      omega (arith, f.0, k.1, l.1),
      λ b. rw (f.1, k.2 b, l.2 b, append_assoc (formula_bytes F) (formula_bytes G) (drop next' s)),
    ))
    (λ next rest. p next m rest) (p (at + 1) m (left - 1))
parts_stand s part p (forall_head A B) at m left f =
    one_stands s (forall A B) at m left (at + 9) (m + 1) (left - 1) (part (at + 9) (m + 1) (left - 1))
    (λ F next rest k. (
      (f.1, f.2, f.3, subst (λ n. Legal n F) (add-one m) k.0),
      omega (arith, f.0, k.1),
      λ b. rw (
        f.4 b,
        k.2 b,
        append_assoc (bound_bytes A) (bound_bytes B ++ formula_bytes F) (drop next s),
        append_assoc (bound_bytes B) (formula_bytes F) (drop next s),
      ),
    ))
    (p (at + 9) (m + 1) (left - 1))

stands : (n : ℕ) (s : List ℕ) (at m left : ℕ) → Stands s at m left (formula n s at m left)
unfolding formula
stands zero s at m left = tt
stands (suc n) s at m left = parts_stand s (formula n s) (stands n s) (head s at m left) at m left (head_shown s at m left)

-- ---- the whole body

pub record Accepted (s : List ℕ) (F : Formula) : Type 0 where
  pub legal : Legal 0 F
  pub few : formulas F ≤ 64
  pub bytes : Bytes s → formula_bytes F ≡ s

pub body_accepted : (s : List ℕ) (F : Formula) → body s ≡ accepted F → Accepted s F
unfolding body whole formula_at
body_accepted s F e = go (formula 65 s 0 0 64) (stands 65 s 0 0 64) e
  where
    go : (r : Read) → Stands s 0 0 64 r → whole s r ≡ accepted F → Accepted s F
    go (stop n) a e = absurd (not_accepted e)
    go (read G next rest) a e =
        let p = answers.passed (eqb next (length s)) (accepted G) 10 F e in
        let n = eqb-true next (length s) p.0 in
        subst (Accepted s) (same_value p.1)
        (record {
          legal = a.0;
          few = omega (arith, a.1);
          bytes = λ b. sym (a.2 b ∙ rw (n, drop-length s, append-nil (formula_bytes G)));
        })

-- A formula has at most one body.
pub one_body : (s t : List ℕ) (F : Formula) → Bytes s → Bytes t → body s ≡ accepted F → body t ≡ accepted F → s ≡ t
one_body s t F a b e f = sym ((body_accepted s F e).bytes a) ∙ (body_accepted t F f).bytes b
