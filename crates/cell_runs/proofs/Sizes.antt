-- A node table that holds a rule's formula with its sizes holds a tree of this formula with right sizes; within the limit of cells the rule's tree is well
-- formed, and its run has four words for each of the formula's cells.
use Prim.Native.Nat.{ℕ, zero, suc, ◌+◌, ◌*◌, ◌≤◌, ◌<◌, min, max}
use mathlib.Core.Path.{◌≡◌, refl, sym, ap, ap₂, subst, ◌∙◌}
use mathlib.Core.Logic.{◌⊎◌, inl, inr, ⊎_elim}
use mathlib.Core.List.{List, [], ◌∷◌, ◌++◌}
use native.Mathlib.Omega.{arith}
use native.Mathlib.Numerals.{add-one, one-add}
use native.Mathlib.Nat.{mul_comm, mul_assoc, zero-mul, le-mul_of_pos_right}
use native.Mathlib.Decide.{dec_lt}
use lib.ListN.{length, get_or, length-append}
use Rattle.rule.specs.declared.Size.{Size}
use Rattle.rule.specs.declared.Size.TheVariants.{Finite, Unbounded}
use Rattle.rule.specs.declared.Pair.{Pair}
use Rattle.rule.specs.Formula.{Formula, flag, negate, then, beside, forall}
use Rattle.rule.specs.Figures.{larger, plus, times, range_pair, width, cells}
use Rattle.rule.specs.Positions.{Within}
use Rattle.rule.specs.Started.{Scoped}
use Rattle.nodes.specs.Table.{Holds}
use Rattle.nodes.proofs.Nodes.{ends}
use Rattle.cell_count.specs.Counts.{cap}
use Rattle.cell_count.proofs.Saturation.{cap_is}
use Rattle.figures.specs.Measured.{SizesAt}
use Rattle.cell_runs.specs.Tree.{formula_of, tree_at, words, Formed}
use Rattle.cell_runs.specs.Sized.{sized, RightSizes}

pub formula_sized : (F : Formula) (ps : List Pair) → formula_of (sized F ps) ≡ F
unfolding formula_of sized
formula_sized (flag v k) ps = refl
formula_sized (negate F) ps = ap negate (formula_sized F ps)
formula_sized (then F G) ps = ap₂ then (formula_sized F ps) (formula_sized G ps)
formula_sized (beside F G) ps = ap₂ beside (formula_sized F ps) (formula_sized G ps)
formula_sized (forall B C F) ps = ap (forall B C) (formula_sized F (ps ++ (range_pair B C ps ∷ [])))

pub tree_formula : (F : Formula) (n : ℕ) (ns : List ℕ) (m i e : ℕ) → e ≤ i + 12 * n → Holds F ns m i e → formula_of (tree_at n ns i) ≡ F
unfolding Holds tree_at formula_of
tree_formula F zero ns m i e r h = absurd (omega (arith, ends F ns m i e h))
tree_formula (flag v k) (suc n) ns m i e r h = simp (h.0, h.1.0, h.1.1.0)
tree_formula (negate F) (suc n) ns m i e r h = simp h.0 (ap negate (tree_formula F n ns m (i + 12) e (omega arith) h.1))
tree_formula (then F G) (suc n) ns m i e r h =
    let j : ℕ = get_or ns (i + 7) 0 in
    let a : i + 24 ≤ j = omega (arith, ends F ns m (i + 12) j h.1.0) in
    let b : j + 12 ≤ e = ends G ns m j e h.1.1 in
    simp (h.0, tree_formula F n ns m (i + 12) j (omega arith) h.1.0, tree_formula G n ns m j e (omega arith) h.1.1)
tree_formula (beside F G) (suc n) ns m i e r h =
    let j : ℕ = get_or ns (i + 7) 0 in
    let a : i + 24 ≤ j = omega (arith, ends F ns m (i + 12) j h.1.0) in
    let b : j + 12 ≤ e = ends G ns m j e h.1.1 in
    simp (h.0, tree_formula F n ns m (i + 12) j (omega arith) h.1.0, tree_formula G n ns m j e (omega arith) h.1.1)
tree_formula (forall B C F) (suc n) ns m i e r h =
    simp (h.0, h.1.1.0, h.1.1.1.0, tree_formula F n ns (m + 1) (i + 12) e (omega arith) h.1.1.1.1)

pub tree_sizes : (F : Formula) (n : ℕ) (ns : List ℕ) (ps : List Pair) (m i e : ℕ) → e ≤ i + 12 * n → Holds F ns m i e → SizesAt F ns ps i → RightSizes ps (tree_at n ns i)
unfolding Holds SizesAt tree_at RightSizes
tree_sizes F zero ns ps m i e r h s = absurd (omega (arith, ends F ns m i e h))
tree_sizes (flag v k) (suc n) ns ps m i e r h s = simp h.0 tt
tree_sizes (negate F) (suc n) ns ps m i e r h s = simp h.0 (tree_sizes F n ns ps m (i + 12) e (omega arith) h.1 s)
tree_sizes (then F G) (suc n) ns ps m i e r h s =
    let j : ℕ = get_or ns (i + 7) 0 in
    let a : i + 24 ≤ j = omega (arith, ends F ns m (i + 12) j h.1.0) in
    let b : j + 12 ≤ e = ends G ns m j e h.1.1 in
    simp h.0 (tree_sizes F n ns ps m (i + 12) j (omega arith) h.1.0 s.0, tree_sizes G n ns ps m j e (omega arith) h.1.1 s.1)
tree_sizes (beside F G) (suc n) ns ps m i e r h s =
    let j : ℕ = get_or ns (i + 7) 0 in
    let a : i + 24 ≤ j = omega (arith, ends F ns m (i + 12) j h.1.0) in
    let b : j + 12 ≤ e = ends G ns m j e h.1.1 in
    simp h.0 (
      s.0 ∙ ap (λ (x : Formula). 4 * cap (cells x ps)) (sym (tree_formula F n ns m (i + 12) j (omega arith) h.1.0)),
      (tree_sizes F n ns ps m (i + 12) j (omega arith) h.1.0 s.1.0, tree_sizes G n ns ps m j e (omega arith) h.1.1 s.1.1),
    )
tree_sizes (forall B C F) (suc n) ns ps m i e r h s =
    let P : List Pair = ps ++ (range_pair B C ps ∷ []) in
    simp (h.0, h.1.1.0, h.1.1.1.0) (λ some. (
      (s some).0 ∙ ap (λ (x : Formula). 4 * (1 + cap (cells x P))) (sym (tree_formula F n ns (m + 1) (i + 12) e (omega arith) h.1.1.1.1)),
      tree_sizes F n ns P (m + 1) (i + 12) e (omega arith) h.1.1.1.1 (s some).1,
    ))

-- ---- the parts of a number of cells

endless : {n : ℕ} → Unbounded ≡ Finite n → ⊥
endless e = let z : ◌≡◌ {A = ℕ} 0 1 = cc in omega arith

larger_parts : (a b : Size) (n : ℕ) → larger a b ≡ Finite n → (x : ℕ) × (y : ℕ) × (a ≡ Finite x) × (b ≡ Finite y) × (n ≡ max x y)
unfolding larger
larger_parts (Finite x) (Finite y) n e = (x, y, refl, refl, cc)
larger_parts (Finite x) Unbounded n e = absurd (endless e)
larger_parts Unbounded b n e = absurd (endless e)

plus_parts : (a b : Size) (n : ℕ) → plus a b ≡ Finite n → (x : ℕ) × (y : ℕ) × (a ≡ Finite x) × (b ≡ Finite y) × (n ≡ x + y)
unfolding plus
plus_parts (Finite x) (Finite y) n e = (x, y, refl, refl, cc)
plus_parts (Finite x) Unbounded n e = absurd (endless e)
plus_parts Unbounded b n e = absurd (endless e)

one_more : (a : Size) (n : ℕ) → plus (Finite 1) a ≡ Finite n → (x : ℕ) × (a ≡ Finite x) × (n ≡ 1 + x)
one_more a n e =
    let p = plus_parts (Finite 1) a n e in
    let one : p.0 ≡ 1 = let q : Finite 1 ≡ Finite p.0 = p.2 in cc in
    (p.1, p.3, p.4 ∙ ap (λ (x : ℕ). x + p.1) one)

-- w times (1 + c): where w is 0, c may be anything
times_parts : (w c : Size) (n : ℕ) → times w (plus (Finite 1) c) ≡ Finite n
    → (x : ℕ) × (w ≡ Finite x) × (((x ≡ 0) × (n ≡ 0)) ⊎ ((y : ℕ) × (c ≡ Finite y) × (n ≡ x * (1 + y))))
unfolding times plus
times_parts (Finite zero) c n e = (0, refl, inl (refl, cc))
times_parts (Finite (suc x)) (Finite y) n e = (suc x, refl, inr (y, refl, cc))
times_parts (Finite (suc x)) Unbounded n e = absurd (endless e)
times_parts Unbounded (Finite y) n e = absurd (endless (rw (one-add y) at e))
times_parts Unbounded Unbounded n e = absurd (endless e)

-- ---- within the limit of cells

-- 1 + w * (1 + c) cells: W and the body's cells are below the cap, or there is no position
pub record RangeParts (w c : Size) (n : ℕ) : Type 0 where
  pub width_within : Within w (cap w)
  pub run_words : 4 + cap w * (4 * (1 + cap c)) ≡ 4 * n
  pub body : (cap w ≡ 0) ⊎ ((x : ℕ) × (c ≡ Finite x) × (x ≤ 4096))

range_parts : (w c : Size) (n : ℕ) → plus (Finite 1) (times w (plus (Finite 1) c)) ≡ Finite n → n ≤ 4096 → RangeParts w c n
range_parts w c n e h =
    let o = one_more (times w (plus (Finite 1) c)) n e in
    let t = times_parts w c o.0 o.1 in
    let en : n ≡ 1 + o.0 = o.2 in
    ⊎_elim
    (λ (z : (t.0 ≡ 0) × (o.0 ≡ 0)).
    let z0 : t.0 ≡ 0 = z.0 in
    let y0 : o.0 ≡ 0 = z.1 in
    let cw : cap w ≡ 0 = cap_is w t.0 t.1 (omega arith) ∙ z0 in
    let zero_words : cap w * (4 * (1 + cap c)) ≡ 0 = ap (λ (x : ℕ). x * (4 * (1 + cap c))) cw ∙ zero-mul (4 * (1 + cap c)) in
    record { width_within = within_cap w t.0 t.1 (omega arith); run_words = omega arith; body = inl cw })
    (λ (y : (v : ℕ) × (c ≡ Finite v) × (o.0 ≡ t.0 * (1 + v))).
    let m : o.0 ≡ t.0 * (1 + y.0) = y.2 in
    let most : t.0 ≤ 4096 = omega (arith, le-mul_of_pos_right {m = 1 + y.0} t.0 (omega arith)) in
    let cw : cap w ≡ t.0 = cap_is w t.0 t.1 most in
    elim (dec_lt 0 t.0) [
      | no l ↦
          let z0 : t.0 ≡ 0 = omega arith in
          let y0 : o.0 ≡ 0 = m ∙ ap (λ (x : ℕ). x * (1 + y.0)) z0 ∙ zero-mul (1 + y.0) in
          let cz : cap w ≡ 0 = cw ∙ z0 in
          let zero_words : cap w * (4 * (1 + cap c)) ≡ 0 = ap (λ (x : ℕ). x * (4 * (1 + cap c))) cz ∙ zero-mul (4 * (1 + cap c)) in
          record { width_within = within_cap w t.0 t.1 most; run_words = omega arith; body = inl cz }
      | yes l ↦
          let small : y.0 ≤ 4096 = omega (arith, le-mul_of_pos_right {m = t.0} (1 + y.0) l, mul_comm t.0 (1 + y.0)) in
          let same_body : cap c ≡ y.0 = cap_is c y.0 y.1 small in
          let wz : cap w * (4 * (1 + cap c)) ≡ 4 * (t.0 * (1 + y.0)) =
          ap₂ (λ (a b : ℕ). a * (4 * (1 + b))) cw same_body ∙ sym (mul_assoc t.0 4 (1 + y.0)) ∙ ap (λ (x : ℕ). x * (1 + y.0)) (mul_comm t.0 4) ∙ mul_assoc 4 t.0 (1 + y.0) in
          record { width_within = within_cap w t.0 t.1 most; run_words = omega arith; body = inr (y.0, y.1, small) }
    ])
    t.2
  where
    within_cap : (a : Size) (k : ℕ) → a ≡ Finite k → k ≤ 4096 → Within a (cap a)
    within_cap a k e h = subst (λ (x : Size). Within x (cap x)) (sym e) (least k h)
      where
        least : (k : ℕ) → k ≤ 4096 → k ≤ min k 4097
        least k h = omega arith

pub words_sized : (F : Formula) (ps : List Pair) (n : ℕ) → cells F ps ≡ Finite n → n ≤ 4096 → words ps (sized F ps) ≡ 4 * n
unfolding words sized cells
words_sized (flag v k) ps n e h = let z : 0 ≡ n = cc in omega arith
words_sized (negate F) ps n e h = words_sized F ps n e h
words_sized (then F G) ps n e h =
    let o = one_more (larger (cells F ps) (cells G ps)) n e in
    let p = larger_parts (cells F ps) (cells G ps) o.0 o.1 in
    let en : n ≡ 1 + o.0 = o.2 in
    let em : o.0 ≡ max p.0 p.1 = p.4 in
    let a : words ps (sized F ps) ≡ 4 * p.0 = words_sized F ps p.0 p.2 (omega arith) in
    let b : words ps (sized G ps) ≡ 4 * p.1 = words_sized G ps p.1 p.3 (omega arith) in
    omega arith
words_sized (beside F G) ps n e h =
    let o = one_more (plus (cells F ps) (cells G ps)) n e in
    let p = plus_parts (cells F ps) (cells G ps) o.0 o.1 in
    let en : n ≡ 1 + o.0 = o.2 in
    let em : o.0 ≡ p.0 + p.1 = p.4 in
    let a : cap (cells F ps) ≡ p.0 = cap_is (cells F ps) p.0 p.2 (omega arith) in
    let b : words ps (sized G ps) ≡ 4 * p.1 = words_sized G ps p.1 p.3 (omega arith) in
    omega arith
words_sized (forall B C F) ps n e h = (range_parts (width (range_pair B C ps)) (cells F (ps ++ (range_pair B C ps ∷ []))) n e h).run_words

pub formed_sized : (F : Formula) (ns : List ℕ) (ps : List Pair) (m i e : ℕ) → Holds F ns m i e → length ps ≡ suc m → Scoped (length ps) F
    → (n : ℕ) → cells F ps ≡ Finite n → n ≤ 4096 → Formed ps (sized F ps)
unfolding Holds Formed sized cells
formed_sized (flag v k) ns ps m i e h l s n c g = s
formed_sized (negate F) ns ps m i e h l s n c g = formed_sized F ns ps m (i + 12) e h.1 l s n c g
formed_sized (then F G) ns ps m i e h l s n c g =
    let o = one_more (larger (cells F ps) (cells G ps)) n c in
    let p = larger_parts (cells F ps) (cells G ps) o.0 o.1 in
    let en : n ≡ 1 + o.0 = o.2 in
    let em : o.0 ≡ max p.0 p.1 = p.4 in (
      formed_sized F ns ps m (i + 12) (get_or ns (i + 7) 0) h.1.0 l s.0 p.0 p.2 (omega arith),
      formed_sized G ns ps m (get_or ns (i + 7) 0) e h.1.1 l s.1 p.1 p.3 (omega arith),
    )
formed_sized (beside F G) ns ps m i e h l s n c g =
    let o = one_more (plus (cells F ps) (cells G ps)) n c in
    let p = plus_parts (cells F ps) (cells G ps) o.0 o.1 in
    let en : n ≡ 1 + o.0 = o.2 in
    let em : o.0 ≡ p.0 + p.1 = p.4 in
    let a : words ps (sized F ps) ≡ 4 * p.0 = words_sized F ps p.0 p.2 (omega arith) in
    let b : cap (cells F ps) ≡ p.0 = cap_is (cells F ps) p.0 p.2 (omega arith) in (
      omega arith,
      (
        formed_sized F ns ps m (i + 12) (get_or ns (i + 7) 0) h.1.0 l s.0 p.0 p.2 (omega arith),
        formed_sized G ns ps m (get_or ns (i + 7) 0) e h.1.1 l s.1 p.1 p.3 (omega arith),
      ),
    )
formed_sized (forall B C F) ns ps m i e h l s n c g =
    let r = range_parts (width (range_pair B C ps)) (cells F (ps ++ (range_pair B C ps ∷ []))) n c g in
    let long : length (ps ++ (range_pair B C ps ∷ [])) ≡ suc (length ps) = length-append ps (range_pair B C ps ∷ []) ∙ add-one (length ps) in
    let deep : m < 4 = h.1.0 in (
      omega arith,
      (
        r.width_within,
        ⊎_elim (λ z. inl z)
            (λ x.
            let a : words (ps ++ (range_pair B C ps ∷ [])) (sized F (ps ++ (range_pair B C ps ∷ []))) ≡ 4 * x.0 = words_sized F (ps ++ (range_pair B C ps ∷ [])) x.0 x.1 x.2 in
            let b : cap (cells F (ps ++ (range_pair B C ps ∷ []))) ≡ x.0 = cap_is (cells F (ps ++ (range_pair B C ps ∷ []))) x.0 x.1 x.2 in
            inr (
              omega arith,
              formed_sized F ns (ps ++ (range_pair B C ps ∷ [])) (m + 1) (i + 12) e h.1.1.1.1 (long ∙ ap suc l ∙ ap suc (sym (add-one m)))
                  (subst (λ (k : ℕ). Scoped k F) (sym long) s) x.0 x.1 x.2,
            ))
            r.body,
      ),
    )
