-- What each arm of the reader answers and writes.
use Prim.Native.Nat.{ℕ, ◌+◌, ◌-◌, ◌≤◌, ◌<◌}
use mathlib.Core.Path.{◌≡◌, refl, sym, ap, ◌∙◌, subst}
use mathlib.Core.Logic.{◌⊎◌, inl, inr}
use mathlib.Core.List.{List}
use native.Mathlib.Omega.{arith}
use lib.ListN.{length, get_or, set}
use lib.Seq.{get_or-set_same, get_or-set_other}
use Rattle.words.specs.Words.{byte}
use Rattle.std.specs.Prelude.{Result, Ok, Err}
use Rattle.refusal.specs.Answer.{refused, accepted, answer_of}
use Rattle.refusal.specs.Numbers.{number_of}
use Rattle.refusal.specs.declared.Refusal.{Refusal}
use Rattle.refusal.proofs.Positive.{not_zero}
use Rattle.rule.specs.Formula.{Formula, flag, negate, then, beside, forall}
use Rattle.rule.specs.Body.{Head, refuse, flag_head, negate_head, then_head, beside_head, forall_head, bound, after_code, head, Read, stop, read, one, two, parts, formula_at}
use Rattle.rule.proofs.Order.{by_order}
use Rattle.rule.proofs.Reading.{require_holds, bound_holds, formula_step}
use Rattle.rule.proofs.Heads.{Only, Accepts, accepts_tested, accepts_reads}
use Rattle.nodes.specs.Table.{bound_of, bound_at, Holds}
use Rattle.nodes.proofs.Nodes.{frame}
use Rattle.reader.specs.declared.Position.{Position}
use Rattle.formula_bytes.specs.Checks.{head_number}
use Rattle.reader.specs.Written.{node_start, head_word, Headed}
use Rattle.reader.specs.Filled.{ending, formula_end, Placed, Filled}
use Rattle.reader.proofs.Ends.{head_accepts, same_ends, refused_end, flag_end, negate_end, forall_end, first_refused, second_end, second_below}

-- a refusal of the head
pub refused_fill : (s : List ℕ) (at m left : ℕ) (ns : List ℕ) (x : Refusal) → number_of x ≡ head_number (head s at m left) → Filled s at m left ns (Err x) ns
unfolding parts
refused_fill s at m left ns x e =
    record {
      answer = refused_end s at m left (number_of x) e (not_zero x);
      below = λ k i. refl;
      placed = subst (Placed ns m left) (sym (formula_step s at m left)) (go (head s at m left) e);
    }
  where
    go : (g : Head) → number_of x ≡ head_number g → Placed ns m left (parts (formula_at s) g at m (left - 1))
    go (refuse k) e = tt
    go (flag_head v k) e = absurd (not_zero x e)
    go negate_head e = absurd (not_zero x e)
    go then_head e = absurd (not_zero x e)
    go beside_head e = absurd (not_zero x e)
    go (forall_head B₁ B₂) e = absurd (not_zero x e)

-- a node's words
module _ (s : List ℕ) (at i : ℕ) (old new : List ℕ) (h : Headed s at i old new) where
  code_word : get_or new (i + 0) 0 ≡ byte s at
  unfolding head_word
  code_word = let e : at + 0 ≡ at = omega arith in h.words 0 (omega arith) ∙ ap (byte s) e

  word_1 : get_or new (i + 1) 0 ≡ byte s (at + 1)
  unfolding head_word
  word_1 = h.words 1 (omega arith)

  word_2 : get_or new (i + 2) 0 ≡ byte s (at + 2)
  unfolding head_word
  word_2 = h.words 2 (omega arith)

  bound_1 : bound_at new (i + 1) ≡ bound s (at + 1)
  unfolding head_word bound_at bound_of bound
  bound_1 =
      let o : (i + 1) + 0 ≡ i + 1 = omega arith in
      let a : (i + 1) + 1 ≡ i + 2 = omega arith in
      let b : (i + 1) + 2 ≡ i + 3 = omega arith in
      let x : (at + 1) + 1 ≡ at + 2 = omega arith in
      let y : (at + 1) + 2 ≡ at + 3 = omega arith in
      simp (o, a, b, x, y, word_1, word_2, h.words 3 (omega arith))

  bound_2 : bound_at new (i + 4) ≡ bound s (at + 5)
  unfolding head_word bound_at bound_of bound
  bound_2 =
      let o : (i + 4) + 0 ≡ i + 4 = omega arith in
      let a : (i + 4) + 1 ≡ i + 5 = omega arith in
      let b : (i + 4) + 2 ≡ i + 6 = omega arith in
      let x : (at + 5) + 1 ≡ at + 6 = omega arith in
      let y : (at + 5) + 2 ≡ at + 7 = omega arith in
      simp (o, a, b, x, y, h.words 4 (omega arith), h.words 5 (omega arith), h.words 6 (omega arith))

-- the arms that write a node
module _ (s : List ℕ) (at m left : ℕ) (bounded : left ≤ 64) (z : 0 ≡ head_number (head s at m left)) (n₀ n₁ : List ℕ) {node : ℕ} (o : node ≡ node_start left) (written : Headed s at node n₀ n₁) where
  a : Accepts (head s at m left)
  a = head_accepts s at m left (sym z)

  w : Headed s at (node_start left) n₀ n₁
  w = subst (λ (i : ℕ). Headed s at i n₀ n₁) o written

  some : 1 ≤ left
  some = (accepts_tested s at m left a).some_left

  step : node_start (left - 1) ≡ node_start left + 12
  step = omega (arith, some)

  pub flag_fill : byte s at ≡ 1 → Filled s at m left n₀ (Ok (ending (at + 3) (left - 1))) n₁
  unfolding after_code parts Holds
  flag_fill e =
      record {
        answer = flag_end s at m left a e;
        below = w.below;
        placed = subst (Placed n₁ m left) (sym reads) (code_word s at (node_start left) n₀ n₁ w ∙ e, (word_1 s at (node_start left) n₀ n₁ w, (word_2 s at (node_start left) n₀ n₁ w, step)));
      }
    where
      reads : formula_at s at m left ≡ read (flag (byte s (at + 1)) (byte s (at + 2))) (at + 3) (left - 1)
      reads = accepts_reads (flag_head (byte s (at + 1)) (byte s (at + 2))) s at m left
          (rw e (require_holds (Only (flag_head (byte s (at + 1)) (byte s (at + 2)))) _ 6 _ tt (λ _. require_holds (Only (flag_head (byte s (at + 1)) (byte s (at + 2)))) _ 7 _ tt (λ _. refl)))) a

  kept : (n₂ : List ℕ) → ((k : ℕ) → k < node_start (left - 1) → get_or n₂ k 0 ≡ get_or n₁ k 0) → (k : ℕ) → k < node_start left → get_or n₂ k 0 ≡ get_or n₀ k 0
  kept n₂ b k h = b k (omega (arith, step)) ∙ w.below k h

  pub negate_fill : byte s at ≡ 2 → (p : Result Position Refusal) (n₂ : List ℕ) → Filled s (at + 1) m (left - 1) n₁ p n₂ → Filled s at m left n₀ p n₂
  unfolding after_code parts one Holds
  negate_fill e p n₂ f =
      record {
        answer = f.answer ∙ negate_end s at m left a e;
        below = kept n₂ f.below;
        placed = subst (Placed n₂ m left) (sym (accepts_reads negate_head s at m left (rw e refl) a)) (go (formula_at s (at + 1) m (left - 1)) f.placed);
      }
    where
      go : (x : Read) → Placed n₂ m (left - 1) x → Placed n₂ m left (one negate x)
      go (stop n) p = tt
      go (read F next rest) p =
          (f.below (node_start left + 0) (omega (arith, step)) ∙ code_word s at (node_start left) n₀ n₁ w ∙ e, subst (λ (j : ℕ). Holds F n₂ m j (node_start rest)) step p)

  pub forall_fill : byte s at ≡ 5 → (p : Result Position Refusal) (n₂ : List ℕ) → Filled s (at + 9) (m + 1) (left - 1) n₁ p n₂ → Filled s at m left n₀ p n₂
  unfolding after_code parts one Holds bound_at
  forall_fill e p n₂ f =
      record {
        answer = f.answer ∙ forall_end s at m left a e;
        below = kept n₂ f.below;
        placed = subst (Placed n₂ m left) (sym reads) (go (formula_at s (at + 9) (m + 1) (left - 1)) f.placed);
      }
    where
      h : Head
      h = forall_head (bound s (at + 1)) (bound s (at + 5))

      reads : formula_at s at m left ≡ one (forall (bound s (at + 1)) (bound s (at + 5))) (formula_at s (at + 9) (m + 1) (left - 1))
      reads = accepts_reads h s at m left (rw e (bound_holds (Only h) s (at + 1) m _ (λ n. tt) (bound_holds (Only h) s (at + 5) m _ (λ n. tt) refl))) a

      go : (x : Read) → Placed n₂ (m + 1) (left - 1) x → Placed n₂ m left (one (forall (bound s (at + 1)) (bound s (at + 5))) x)
      go (stop n) p = tt
      go (read F next rest) p = (
        f.below (node_start left + 0) (omega (arith, step)) ∙ code_word s at (node_start left) n₀ n₁ w ∙ e,
        (
          (accepts_tested s at m left a).nested e,
          (
            same (node_start left + 1) (omega (arith, step)) ∙ bound_1 s at (node_start left) n₀ n₁ w,
            (
              same (node_start left + 4) (omega (arith, step)) ∙ bound_2 s at (node_start left) n₀ n₁ w,
              subst (λ (j : ℕ). Holds F n₂ (m + 1) j (node_start rest)) step p,
            ),
          ),
        ),
      )
        where
          same : (j : ℕ) → j + 2 < node_start (left - 1) → bound_at n₂ j ≡ bound_at n₁ j
          same j l = rw (f.below (j + 0) (omega arith), f.below (j + 1) (omega arith), f.below (j + 2) (omega arith))

  -- "then" and "beside" alike
  record Two : Type 0 where
    make : Formula → Formula → Formula
    shape : formula_at s at m left ≡ two make (λ next rest. formula_at s next m rest) (formula_at s (at + 1) m (left - 1))
    makes : (F G : Formula) (ns : List ℕ) (e : ℕ) → get_or ns (node_start left + 0) 0 ≡ byte s at → Holds F ns m (node_start left + 12) (get_or ns (node_start left + 7) 0)
        → Holds G ns m (get_or ns (node_start left + 7) 0) e → Holds (make F G) ns m (node_start left) e

  two_of : 3 ≤ byte s at → byte s at ≤ 4 → Two
  unfolding after_code parts Holds
  two_of i j = go (by_order (byte s at) 3)
    where
      go : (byte s at ≤ 3) ⊎ (3 < byte s at) → Two
      go (inl k) = let e : byte s at ≡ 3 = omega arith in
          record { make = then; shape = accepts_reads then_head s at m left (rw e refl) a; makes = λ F G ns z c f g. (c ∙ e, (f, g)) }
      go (inr k) = let e : byte s at ≡ 4 = omega arith in
          record { make = beside; shape = accepts_reads beside_head s at m left (rw e refl) a; makes = λ F G ns z c f g. (c ∙ e, (f, g)) }

  module _ (i : 3 ≤ byte s at) (j : byte s at ≤ 4) (p : Result Position Refusal) (n₂ : List ℕ) (f : Filled s (at + 1) m (left - 1) n₁ p n₂) where
    pub first_fill : (x : Refusal) → p ≡ Err x → Filled s at m left n₀ (Err x) n₂
    unfolding two
    first_fill x e =
        record {
          answer = first_refused s at m left a i j f.answer (ap answer_of e);
          below = kept n₂ f.below;
          placed = subst (Placed n₂ m left) (sym (two_of i j).shape) (go (formula_at s (at + 1) m (left - 1)) (sym (ap answer_of e) ∙ f.answer));
        }
      where
        go : (q : Read) → refused (number_of x) ≡ formula_end q → Placed n₂ m left (two (two_of i j).make (λ next rest. formula_at s next m rest) q)
        go (stop k) y = tt
        go (read F next rest) y = let z : ◌≡◌ {A = ℕ} 0 1 = cc in absurd (omega arith)

    pub second_left : (x y : ℕ) → p ≡ Ok (ending x y) → y < left
    second_left x y e = second_below s at m left a i j f.answer (ap answer_of e)

    pub second_fill : (x y : ℕ) → p ≡ Ok (ending x y) → node_start left + 12 ≤ length n₂ → (r : Result Position Refusal) (n₄ : List ℕ)
        → Filled s x m y (set n₂ (node_start left + 7) (node_start y)) r n₄ → Filled s at m left n₀ r n₄
    unfolding two one
    second_fill x y e room r n₄ g =
        record {
          answer = g.answer ∙ second_end s at m left a i j f.answer (ap answer_of e);
          below = λ k h. early k (omega (arith, less)) (omega arith) (λ q. omega arith) ∙ kept n₂ f.below k h;
          placed = subst (Placed n₄ m left) (sym (two_of i j).shape) (go (formula_at s (at + 1) m (left - 1)) f.placed (sym (ap answer_of e) ∙ f.answer));
        }
      where
        less : y < left
        less = second_left x y e

        early : (k : ℕ) → k < node_start y → k < node_start left + 12 → (k ≡ node_start left + 7 → ⊥) → get_or n₄ k 0 ≡ get_or n₂ k 0
        early k h l q = g.below k h ∙ get_or-set_other n₂ (node_start left + 7) k (node_start y) 0 q

        later : (k : ℕ) → k < node_start y → node_start left + 12 ≤ k → get_or n₄ k 0 ≡ get_or n₂ k 0
        later k h l = g.below k h ∙ get_or-set_other n₂ (node_start left + 7) k (node_start y) 0 (λ q. omega arith)

        second : get_or n₄ (node_start left + 7) 0 ≡ node_start y
        second = g.below (node_start left + 7) (omega (arith, less, some)) ∙ get_or-set_same n₂ (node_start left + 7) (node_start y) 0 (omega arith)

        code : get_or n₄ (node_start left + 0) 0 ≡ byte s at
        code = early (node_start left + 0) (omega (arith, less)) (omega arith) (λ q. omega arith) ∙ f.below (node_start left + 0) (omega (arith, step)) ∙ code_word s at (node_start left) n₀ n₁ w

        go : (q : Read) → Placed n₂ m (left - 1) q → accepted (ending x y) ≡ formula_end q → Placed n₄ m left (two (two_of i j).make (λ next rest. formula_at s next m rest) q)
        go (stop k) z h = let z : ◌≡◌ {A = ℕ} 0 1 = cc in absurd (omega arith)
        go (read F next rest) z h =
            let u = (same_ends h).0 in
            let v = (same_ends h).1 in
            let first : Holds F n₄ m (node_start left + 12) (node_start y) = frame F n₂ n₄ m (node_start left + 12) (node_start y) (λ k b c. later k c b)
            (subst (λ (k : ℕ). Holds F n₂ m k (node_start y)) step (subst (λ (k : ℕ). Holds F n₂ m (node_start (left - 1)) (node_start k)) (sym v) z)) in
            ho (formula_at s next m rest) F first (subst (λ (k : ℕ). Placed n₄ m k (formula_at s next m rest)) v
            (subst (λ (q : Read). Placed n₄ m y q) (ap (λ (k : ℕ). formula_at s k m y) u ∙ ap (λ (k : ℕ). formula_at s next m k) v) g.placed)) v
          where
            ho : (q : Read) (F : Formula) → Holds F n₄ m (node_start left + 12) (node_start y) → Placed n₄ m rest q → y ≡ rest → Placed n₄ m left (one ((two_of i j).make F) q)
            ho (stop k) F b c v = tt
            ho (read G next' rest') F b c v =
                (two_of i j).makes F G n₄ (node_start rest') code (subst (λ (k : ℕ). Holds F n₄ m (node_start left + 12) k) (sym second) b)
                (subst (λ (k : ℕ). Holds G n₄ m k (node_start rest')) (ap node_start (sym v) ∙ sym second) c)
