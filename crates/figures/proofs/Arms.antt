-- What each arm of `measure_at` answers and writes.
use Prim.Native.Nat.{ℕ, suc, ◌+◌, ◌*◌, ◌-◌, ◌≤◌, ◌<◌}
use mathlib.Core.Path.{◌≡◌, refl, sym, ap, ◌∙◌, subst}
use mathlib.Core.Logic.{◌⊎◌, inl, inr}
use mathlib.Core.Bool.{true, false, true≢false}
use mathlib.Core.List.{List, [], ◌∷◌, ◌++◌}
use native.Mathlib.Omega.{arith}
use lib.ListN.{length, get_or, set}
use lib.Seq.{get_or-set_same, get_or-set_other}
use Rattle.rule.specs.Formula.{Bound, Formula, flag, negate, then, beside, forall}
use Rattle.rule.specs.Figures.{larger, range_pair, N, always_empty}
use Rattle.rule.specs.declared.Size.{Size}
use Rattle.rule.specs.declared.Pair.{Pair}
use Rattle.nodes.specs.Table.{bound_at, Holds}
use Rattle.nodes.specs.declared.operand.Operand.{Operand}
use Rattle.nodes.specs.Nots.{past_nots}
use Rattle.nodes.proofs.Nodes.{ends, Same, same_bound, frame}
use Rattle.nodes.proofs.Nots.{over_nots}
use Rattle.figures.specs.declared.scope.Scope.{Scope}
use Rattle.figures.specs.declared.figure.Figure.{Figure}
use Rattle.figures.specs.Distances.{Near, farthest, Modest}
use Rattle.figures.specs.Scopes.{inside}
use Rattle.figures.specs.Parts.{flag_figure, joined_figure, ranged_figure, then_figure, beside_figure, empty_figure, range_figure, FigureOf}
use Rattle.figures.specs.Measured.{SizesAt, Measured, Promise, Measures}
use Rattle.figures.proofs.Distances.{modest_larger, modest_delay}
use Rattle.figures.proofs.Parts.{flag_of, negate_of, then_of, beside_of, empty_of, forall_of}

-- sizes depend only on the formula's own words
two_sizes : (F G : Formula) (old new : List ℕ) (ps : List Pair) (m i e : ℕ) → Same old new i e
    → ((e' : ℕ) → Same old new (i + 12) e' → Holds F old m (i + 12) e' → SizesAt F old ps (i + 12) → SizesAt F new ps (i + 12))
    → ((j : ℕ) → Same old new j e → Holds G old m j e → SizesAt G old ps j → SizesAt G new ps j)
    → Holds F old m (i + 12) (get_or old (i + 7) 0) → Holds G old m (get_or old (i + 7) 0) e
    → SizesAt F old ps (i + 12) × SizesAt G old ps (get_or old (i + 7) 0) → SizesAt F new ps (i + 12) × SizesAt G new ps (get_or new (i + 7) 0)
two_sizes F G old new ps m i e s f g h h' z =
    let a : i + 24 ≤ get_or old (i + 7) 0 = omega (arith, ends F old m (i + 12) (get_or old (i + 7) 0) h) in
    let b : get_or old (i + 7) 0 + 12 ≤ e = ends G old m (get_or old (i + 7) 0) e h' in (
      f (get_or old (i + 7) 0) (λ k x y. s k (omega arith) (omega arith)) h z.0,
      subst (λ (j : ℕ). SizesAt G new ps j) (sym (s (i + 7) (omega arith) (omega arith))) (g (get_or old (i + 7) 0) (λ k x y. s k (omega arith) y) h' z.1),
    )

pub keep_sizes : (F : Formula) (old new : List ℕ) (ps : List Pair) (m i e : ℕ) → Same old new i e → Holds F old m i e → SizesAt F old ps i → SizesAt F new ps i
unfolding Holds SizesAt
keep_sizes (flag v k) old new ps m i e s h z = tt
keep_sizes (negate F) old new ps m i e s h z = keep_sizes F old new ps m (i + 12) e (λ k x y. s k (omega arith) y) h.1 z
keep_sizes (then F G) old new ps m i e s h z =
    two_sizes F G old new ps m i e s (λ e' x. keep_sizes F old new ps m (i + 12) e' x) (λ j x. keep_sizes G old new ps m j e x) h.1.0 h.1.1 z
keep_sizes (beside F G) old new ps m i e s h z =
    let a : i + 12 ≤ e = ends (beside F G) old m i e h in (
      s (i + 9) (omega arith) (omega arith) ∙ z.0,
      two_sizes F G old new ps m i e s (λ e' x. keep_sizes F old new ps m (i + 12) e' x) (λ j x. keep_sizes G old new ps m j e x) h.1.0 h.1.1 z.1,
    )
keep_sizes (forall B C F) old new ps m i e s h z = λ some.
    let a : i + 12 ≤ e = ends (forall B C F) old m i e h in (
      s (i + 8) (omega arith) (omega arith) ∙ (z some).0,
      keep_sizes F old new (ps ++ (range_pair B C ps ∷ [])) (m + 1) (i + 12) e (λ k x y. s k (omega arith) y) h.1.1.1.1 (z some).1,
    )

-- the pair of the bounds in the table is the formula's
range_read : (ns : List ℕ) (i : ℕ) (ps : List Pair) (B C : Bound) (R : Pair) → R ≡ range_pair (bound_at ns (i + 1)) (bound_at ns (i + 4)) ps
    → bound_at ns (i + 1) ≡ B → bound_at ns (i + 4) ≡ C → R ≡ range_pair B C ps
range_read ns i ps B C R eR b c = eR ∙ ap (λ (x : Bound). range_pair x (bound_at ns (i + 4)) ps) b ∙ ap (λ (x : Bound). range_pair B x ps) c

-- ---- the arms that write nothing

pub none_left : (m i : ℕ) (ps : List Pair) (start : Size) (ns : List ℕ) (r : Figure) (left : ℕ) → left ≡ 0 → Promise left m i ps start ns ns r
none_left m i ps start ns r left z F e h l n = absurd (omega (arith, ends F ns m i e h))

module _ (ns : List ℕ) (left m i : ℕ) (ps : List Pair) (start : Size) where
  pub deep_arm : (r : Figure) → get_or ns (i + 0) 0 ≡ 5 → 4 ≤ m → Promise left m i ps start ns ns r
  unfolding Holds
  deep_arm r k d (flag v b) e h l n = absurd (omega arith)
  deep_arm r k d (negate F) e h l n = absurd (omega arith)
  deep_arm r k d (then F G) e h l n = absurd (omega arith)
  deep_arm r k d (beside F G) e h l n = absurd (omega arith)
  deep_arm r k d (forall B C F) e h l n = absurd (omega arith)

  pub flag_arm : (r : Figure) → (get_or ns (i + 0) 0 ≡ 2 → ⊥) → (get_or ns (i + 0) 0 ≡ 3 → ⊥) → (get_or ns (i + 0) 0 ≡ 4 → ⊥) → (get_or ns (i + 0) 0 ≡ 5 → ⊥) → r ≡ flag_figure → Promise left m i ps start ns ns r
  unfolding Holds SizesAt
  flag_arm r a b c d f (flag v k) e h l n = record { figure = rw f (flag_of v k ps start); holds = h; sizes = tt; outside = λ k x. refl }
  flag_arm r a b c d f (negate F) e h l n = absurd (a (omega arith))
  flag_arm r a b c d f (then F G) e h l n = absurd (b (omega arith))
  flag_arm r a b c d f (beside F G) e h l n = absurd (c (omega arith))
  flag_arm r a b c d f (forall B C F) e h l n = absurd (d (omega arith))

  -- a range that is always empty: R its variable's pair
  pub empty_arm : (R : Pair) (r : Figure) → R ≡ range_pair (bound_at ns (i + 1)) (bound_at ns (i + 4)) ps → always_empty R ≡ true → get_or ns (i + 0) 0 ≡ 5 → r ≡ empty_figure
      → Promise left m i ps start ns ns r
  unfolding Holds SizesAt
  empty_arm R r eR z k f (forall B C F) e h l n =
      let none : always_empty (range_pair B C ps) ≡ true = ap always_empty (sym (range_read ns i ps B C R eR h.1.1.0 h.1.1.1.0)) ∙ z in
      record { figure = rw f (empty_of B C F ps start none); holds = h; sizes = λ some. absurd (true≢false (sym none ∙ some)); outside = λ k x. refl }
  empty_arm R r eR z k f (flag v b) e h l n = absurd (omega arith)
  empty_arm R r eR z k f (negate F) e h l n = absurd (omega arith)
  empty_arm R r eR z k f (then F G) e h l n = absurd (omega arith)
  empty_arm R r eR z k f (beside F G) e h l n = absurd (omega arith)

-- ---- nots: the figures and the sizes of what stands under them

module _ (old new : List ℕ) (m : ℕ) (ps : List Pair) (start : Size) (f : Figure) where
  negate_arm : (left i : ℕ) → get_or old (i + 0) 0 ≡ 2 → Promise left m (i + 12) ps start old new f → Promise (suc left) m i ps start old new f
  unfolding Holds SizesAt
  negate_arm left i c p (negate F) e h l n =
      let x : Measured F ps start m (i + 12) e old new f = p F e h.1 (omega arith) n in
      record {
        figure = negate_of F ps start f x.figure;
        holds = (x.outside (i + 0) (inl (omega arith)) ∙ h.0, x.holds);
        sizes = x.sizes;
        outside = λ k o. x.outside k (farther k o);
      }
    where
      farther : (k : ℕ) → (k < i) ⊎ (e ≤ k) → (k < i + 12) ⊎ (e ≤ k)
      farther k (inl a) = inl (omega arith)
      farther k (inr a) = inr a
  negate_arm left i c p (flag v k) e h l n = absurd (omega arith)
  negate_arm left i c p (then F G) e h l n = absurd (omega arith)
  negate_arm left i c p (beside F G) e h l n = absurd (omega arith)
  negate_arm left i c p (forall B C F) e h l n = absurd (omega arith)

-- ---- the arms with parts

module _ (old : List ℕ) (left m i : ℕ) (ps : List Pair) (start : Size) (z : left ≡ 0 → ⊥) where
  -- two parts: what holds after both
  record Both (F G : Formula) (e : ℕ) (k : Size) (n₂ : List ℕ) (f g : Figure) : Type 0 where
    first : FigureOf F ps start f
    second : FigureOf G ps k g
    first_holds : Holds F n₂ m (i + 12) (get_or old (i + 7) 0)
    second_holds : Holds G n₂ m (get_or old (i + 7) 0) e
    first_sizes : SizesAt F n₂ ps (i + 12)
    second_sizes : SizesAt G n₂ ps (get_or old (i + 7) 0)
    low : (k : ℕ) → k < i + 12 → get_or n₂ k 0 ≡ get_or old k 0
    high : (k : ℕ) → e ≤ k → get_or n₂ k 0 ≡ get_or old k 0

  both : (F G : Formula) (e j : ℕ) (k : Size) (n₁ n₂ : List ℕ) (f g : Figure) → j ≡ get_or old (i + 7) 0 → length n₁ ≡ length old → e ≤ i + 12 * left → e ≤ length old
      → Holds F old m (i + 12) (get_or old (i + 7) 0) → Holds G old m (get_or old (i + 7) 0) e
      → Promise (left - 1) m (i + 12) ps start old n₁ f → Promise (left - 1) m j ps k n₁ n₂ g → Both F G e k n₂ f g
  both F G e j k n₁ n₂ f g ej len l n hF hG p p' =
      let s : ℕ = get_or old (i + 7) 0 in
      let a : i + 24 ≤ get_or old (i + 7) 0 = omega (arith, ends F old m (i + 12) (get_or old (i + 7) 0) hF) in
      let b : get_or old (i + 7) 0 + 12 ≤ e = ends G old m (get_or old (i + 7) 0) e hG in
      let o : 1 ≤ left = omega (arith, z) in
      let x : Measured F ps start m (i + 12) (get_or old (i + 7) 0) old n₁ f = p F (get_or old (i + 7) 0) hF (omega arith) (omega arith) in
      let p'' : Promise (left - 1) m (get_or old (i + 7) 0) ps k n₁ n₂ g = subst (λ (t : ℕ). Promise (left - 1) m t ps k n₁ n₂ g) ej p' in
      let y : Measured G ps k m (get_or old (i + 7) 0) e n₁ n₂ g = p'' G e (frame G old n₁ m (get_or old (i + 7) 0) e (λ t u v. x.outside t (inr u)) hG) (omega arith) (omega arith) in
      record {
        first = x.figure;
        second = y.figure;
        first_holds = frame F n₁ n₂ m (i + 12) (get_or old (i + 7) 0) (λ t u v. y.outside t (inl v)) x.holds;
        second_holds = y.holds;
        first_sizes = keep_sizes F n₁ n₂ ps m (i + 12) (get_or old (i + 7) 0) (λ t u v. y.outside t (inl v)) x.holds x.sizes;
        second_sizes = y.sizes;
        low = λ t u. y.outside t (inl (omega arith)) ∙ x.outside t (inl u);
        high = λ t u. y.outside t (inr u) ∙ x.outside t (inr (omega arith));
      }

  module _ (j : ℕ) (n₁ n₂ : List ℕ) (f g r : Figure) (ej : j ≡ get_or old (i + 7) 0) (len : length n₁ ≡ length old) (p : Promise (left - 1) m (i + 12) ps start old n₁ f) where
    pub then_arm : (k : Size) → get_or old (i + 0) 0 ≡ 3 → k ≡ larger start f.delay → Promise (left - 1) m j ps k n₁ n₂ g → r ≡ then_figure f g → Promise left m i ps start old n₂ r
    unfolding Holds SizesAt
    then_arm k c ek p' er (then F G) e h l n =
        let t : Both F G e k n₂ f g = both F G e j k n₁ n₂ f g ej len l n h.1.0 h.1.1 p p' in
        let s : get_or n₂ (i + 7) 0 ≡ get_or old (i + 7) 0 = t.low (i + 7) (omega arith) in
        record {
          figure = rw er (then_of F G ps start k f g t.first t.second ek);
          holds = (t.low (i + 0) (omega arith) ∙ h.0, subst (λ (x : ℕ). Holds F n₂ m (i + 12) x × Holds G n₂ m x e) (sym s) (t.first_holds, t.second_holds));
          sizes = (t.first_sizes, subst (λ (x : ℕ). SizesAt G n₂ ps x) (sym s) t.second_sizes);
          outside = λ x o. either x t o;
        }
      where
        either : (x : ℕ) → Both F G e k n₂ f g → (x < i) ⊎ (e ≤ x) → get_or n₂ x 0 ≡ get_or old x 0
        either x t (inl a) = t.low x (omega arith)
        either x t (inr a) = t.high x a
    then_arm k c ek p' er (flag v b) e h l n = absurd (omega arith)
    then_arm k c ek p' er (negate F) e h l n = absurd (omega arith)
    then_arm k c ek p' er (beside F G) e h l n = absurd (omega arith)
    then_arm k c ek p' er (forall B C F) e h l n = absurd (omega arith)

    pub beside_arm : (n₃ : List ℕ) → get_or old (i + 0) 0 ≡ 4 → Promise (left - 1) m j ps start n₁ n₂ g → length n₂ ≡ length n₁ → n₃ ≡ set n₂ (i + 9) (4 * f.cells) → r ≡ beside_figure f g
        → Promise left m i ps start old n₃ r
    unfolding Holds SizesAt
    beside_arm n₃ c p' len' en er (beside F G) e h l n =
        let t : Both F G e start n₂ f g = both F G e j start n₁ n₂ f g ej len l n h.1.0 h.1.1 p p' in
        let a : i + 24 ≤ get_or old (i + 7) 0 = omega (arith, ends F old m (i + 12) (get_or old (i + 7) 0) h.1.0) in
        let b : get_or old (i + 7) 0 + 12 ≤ e = ends G old m (get_or old (i + 7) 0) e h.1.1 in
        let s : get_or n₃ (i + 7) 0 ≡ get_or old (i + 7) 0 = other (i + 7) (λ x. omega arith) ∙ t.low (i + 7) (omega arith) in
        record {
          figure = rw er (beside_of F G ps start start f g t.first t.second refl);
          holds = (
            other (i + 0) (λ x. omega arith) ∙ t.low (i + 0) (omega arith) ∙ h.0,
            subst (λ (x : ℕ). Holds F n₃ m (i + 12) x × Holds G n₃ m x e) (sym s)
                (frame F n₂ n₃ m (i + 12) (get_or old (i + 7) 0) (λ x u y. other x (λ d. omega arith)) t.first_holds, frame G n₂ n₃ m (get_or old (i + 7) 0) e (λ x u y. other x (λ d. omega arith)) t.second_holds),
          );
          sizes = (
            written (omega arith) ∙ ap (λ (x : ℕ). 4 * x) t.first.cells_is,
            (
              keep_sizes F n₂ n₃ ps m (i + 12) (get_or old (i + 7) 0) (λ x u y. other x (λ d. omega arith)) t.first_holds t.first_sizes,
              subst (λ (x : ℕ). SizesAt G n₃ ps x) (sym s) (keep_sizes G n₂ n₃ ps m (get_or old (i + 7) 0) e (λ x u y. other x (λ d. omega arith)) t.second_holds t.second_sizes),
            ),
          );
          outside = λ x o. either x t b o;
        }
      where
        other : (x : ℕ) → (x ≡ i + 9 → ⊥) → get_or n₃ x 0 ≡ get_or n₂ x 0
        other x d = ap (λ (ns : List ℕ). get_or ns x 0) en ∙ get_or-set_other n₂ (i + 9) x (4 * f.cells) 0 d

        written : i + 9 < length n₂ → get_or n₃ (i + 9) 0 ≡ 4 * f.cells
        written d = ap (λ (ns : List ℕ). get_or ns (i + 9) 0) en ∙ get_or-set_same n₂ (i + 9) (4 * f.cells) 0 d

        either : (x : ℕ) → Both F G e start n₂ f g → get_or old (i + 7) 0 + 12 ≤ e → (x < i) ⊎ (e ≤ x) → get_or n₃ x 0 ≡ get_or old x 0
        either x t b (inl a) = other x (λ d. omega arith) ∙ t.low x (omega arith)
        either x t b (inr a) = other x (λ d. omega (arith, ends (beside F G) old m i e h)) ∙ t.high x a
    beside_arm n₃ c p' len' en er (flag v' b) e h l n = absurd (omega arith)
    beside_arm n₃ c p' len' en er (negate F) e h l n = absurd (omega arith)
    beside_arm n₃ c p' len' en er (then F G) e h l n = absurd (omega arith)
    beside_arm n₃ c p' len' en er (forall B C F) e h l n = absurd (omega arith)

  -- any other range
  module _ (R : Pair) (eR : R ≡ range_pair (bound_at old (i + 1)) (bound_at old (i + 4)) ps) (some : always_empty R ≡ false) (c : get_or old (i + 0) 0 ≡ 5) (k : Size) (ek : k ≡ larger start (N R.upper))
      (ps' : List Pair) (ep : ps' ≡ ps ++ (R ∷ [])) (n₁ n₃ : List ℕ) (f r : Figure) (len : length n₁ ≡ length old)
      (en : n₃ ≡ set n₁ (i + 8) (4 * (1 + f.cells))) where
    other : (x : ℕ) → (x ≡ i + 8 → ⊥) → get_or n₃ x 0 ≡ get_or n₁ x 0
    other x d = ap (λ (ns : List ℕ). get_or ns x 0) en ∙ get_or-set_other n₁ (i + 8) x (4 * (1 + f.cells)) 0 d

    written : i + 8 < length n₁ → get_or n₃ (i + 8) 0 ≡ 4 * (1 + f.cells)
    written d = ap (λ (ns : List ℕ). get_or ns (i + 8) 0) en ∙ get_or-set_same n₁ (i + 8) (4 * (1 + f.cells)) 0 d

    pub forall_arm : r ≡ range_figure R start f → Promise (left - 1) (m + 1) (i + 12) ps' k old n₁ f → Promise left m i ps start old n₃ r
    unfolding Holds SizesAt
    forall_arm er p (forall B C F) e h l n =
        let bound : i + 12 ≤ e = ends (forall B C F) old m i e h in
        let x : Measured F ps' k (m + 1) (i + 12) e old n₁ f = p F e h.1.1.1.1 (omega (arith, z)) n in
        let eQ : R ≡ range_pair B C ps = range_read old i ps B C R eR h.1.1.0 h.1.1.1.0 in
        let eP : ps' ≡ ps ++ (range_pair B C ps ∷ []) = ep ∙ ap (λ (y : Pair). ps ++ (y ∷ [])) eQ in
        let eK : k ≡ larger start (N (range_pair B C ps).upper) = ek ∙ ap (λ (y : Pair). larger start (N y.upper)) eQ in
        let fig : FigureOf F (ps ++ (range_pair B C ps ∷ [])) (larger start (N (range_pair B C ps).upper)) f =
        subst (λ (y : Size). FigureOf F (ps ++ (range_pair B C ps ∷ [])) y f) eK (subst (λ (y : List Pair). FigureOf F y k f) eP x.figure) in
        record {
          figure = subst (λ (y : Figure). FigureOf (forall B C F) ps start y) (sym (er ∙ ap (λ (y : Pair). range_figure y start f) eQ)) (forall_of B C F ps start f (ap always_empty (sym eQ) ∙ some) fig);
          holds = (
            same (i + 0) (omega arith) (λ d. omega arith) x ∙ h.0,
            (
              h.1.0,
              (
                same_bounds (i + 1) (omega arith) x ∙ h.1.1.0,
                (
                  same_bounds (i + 4) (omega arith) x ∙ h.1.1.1.0,
                  frame F n₁ n₃ (m + 1) (i + 12) e (λ t u v. other t (λ d. omega arith)) x.holds,
                ),
              ),
            ),
          );
          sizes = λ live. (
            written (omega arith) ∙ ap (λ (n : ℕ). 4 * (1 + n)) fig.cells_is,
            keep_sizes F n₁ n₃ (ps ++ (range_pair B C ps ∷ [])) (m + 1) (i + 12) e (λ t u v. other t (λ d. omega arith)) x.holds (subst (λ (y : List Pair). SizesAt F n₁ y (i + 12)) eP x.sizes),
          );
          outside = λ t o. either t bound x o;
        }
      where
        same : (t : ℕ) → t < i + 12 → (t ≡ i + 8 → ⊥) → Measured F ps' k (m + 1) (i + 12) e old n₁ f → get_or n₃ t 0 ≡ get_or old t 0
        same t u d x = other t d ∙ x.outside t (inl u)

        same_bounds : (t : ℕ) → t + 2 < i + 8 → Measured F ps' k (m + 1) (i + 12) e old n₁ f → bound_at n₃ t ≡ bound_at old t
        same_bounds t u x = same_bound old n₃ t (t + 3) t (λ y a b. same y (omega arith) (λ d. omega arith) x) (omega arith) (omega arith)

        either : (t : ℕ) → i + 12 ≤ e → Measured F ps' k (m + 1) (i + 12) e old n₁ f → (t < i) ⊎ (e ≤ t) → get_or n₃ t 0 ≡ get_or old t 0
        either t b x (inl a) = same t (omega arith) (λ d. omega arith) x
        either t b x (inr a) = other t (λ d. omega arith) ∙ x.outside t (inr a)
    forall_arm er p (flag v b) e h l n = absurd (omega arith)
    forall_arm er p (negate F) e h l n = absurd (omega arith)
    forall_arm er p (then F G) e h l n = absurd (omega arith)
    forall_arm er p (beside F G) e h l n = absurd (omega arith)

-- ---- what is known of an answer in any case

abbrev pub Safe : Figure → Type 0
Safe r = (r.cells ≤ 4097) × Modest r.delay

pub flag_safe : (r : Figure) → r ≡ flag_figure → Safe r
unfolding flag_figure
flag_safe r e = subst Safe (sym e) (omega arith, omega arith)

pub empty_safe : (r : Figure) → r ≡ empty_figure → Safe r
unfolding empty_figure
empty_safe r e = subst Safe (sym e) (omega arith, omega arith)

pub joined_safe : (f g : Figure) {r : Figure} {n : ℕ} → r ≡ joined_figure f g n → n ≤ 4097 → Modest f.delay → Modest g.delay → Safe r
joined_safe f g e few a b = subst Safe (sym e) (few, modest_larger f.delay g.delay a b)

pub range_safe : (R : Pair) (h : Size) (f r : Figure) → r ≡ ranged_figure R h f → Modest f.delay → Near farthest R.upper → Safe r
range_safe R h f r e a b = subst Safe (sym e) (omega arith, modest_larger f.delay (N R.upper) a (modest_delay R.upper b))

-- What measuring the formula u under the nots answers and writes, measuring the one at word i does.
pub under_nots : (old new : List ℕ) (left i : ℕ) (sc : Scope) (start : Size) (f : Figure) (u : Operand) → u ≡ past_nots left old i false → Safe f
    → Promise u.left sc.depth u.node (inside sc) start old new f → Measures left i sc start old new f
under_nots old new left i sc start f u e safe p =
    record {
      small = safe.0;
      modest = safe.1;
      promise = over_nots old (λ odd n j. Promise n sc.depth j (inside sc) start old new f) (λ odd n j. negate_arm old new sc.depth (inside sc) start f n j) left i false u e p;
    }
