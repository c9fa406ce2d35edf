-- What a step after a formula promises, over plain values: one law to an arm of the code.
use Prim.Native.Nat.{ℕ, zero, suc, ◌+◌, ◌-◌, ◌≤◌, ◌<◌}
use mathlib.Core.Path.{◌≡◌, refl, ap, sym, ◌∙◌}
use mathlib.Core.Bool.{Bool, true, false, cond}
use mathlib.Core.List.{List, [], ◌∷◌}
use mathlib.Core.Logic.{inr}
use native.Mathlib.Omega.{arith}
use lib.ListN.{length, drop, take, get_or, set, drop_of_length-le}
use lib.Seq.{drop-cons, drop-drop}
use Rattle.std.specs.Prelude.{Some, None}
use Rattle.refusal.specs.Answer.{refused}
use Rattle.notation.specs.Notation.{then_sign, beside_sign}
use Rattle.notation.specs.Reading.{got, none, starts, expect, Joint, then_joint, beside_joint, joint}
use Rattle.notation.specs.Bodies.{joint_code}
use Rattle.text_pieces.specs.Spots.{Found}
use Rattle.text_to_body.specs.Work.{finish, before_formula, after_formula, scope_of}
use Rattle.text_to_body.specs.Cursors.{to_come, answer_at, CursorFits, Moved}
use Rattle.text_to_body.specs.declared.cursor.Cursor.{Cursor}
use Rattle.text_to_body.specs.declared.cursor.Frame.{Frame}
use Rattle.text_to_body.specs.declared.cursor.Frame.TheVariants.{Second, Range, First}
use Rattle.text_to_body.specs.declared.cursor.Mode.TheVariants.{Before, After, Whole}
use Rattle.text_pieces.proofs.Finding.{found_some, found_none, word_fits}
use Rattle.text_to_body.proofs.Costs.{joint_ends}
use Rattle.text_to_body.proofs.Works.{after_joint, after_unjoined, after_binding, after_close, after_unclosed}
use Rattle.text_to_body.proofs.Moves.{going, goes, stops}

-- ---- which connective stands there

module _ (s : List ℕ) (j : Joint) (t : List ℕ) (e : joint s ≡ got j t) where
  pub joint_is_then : starts then_sign s ≡ true → 3 ≡ joint_code j
  unfolding joint
  joint_is_then h = let f : got then_joint (drop 4 s) ≡ got j t = rw h at e in let g : then_joint ≡ j = cc in ap joint_code g

  pub joint_is_beside : starts then_sign s ≡ false → 4 ≡ joint_code j
  unfolding joint expect
  joint_is_beside h = go (starts beside_sign s) (rw h at e)
    where
      go : (b : Bool) → cond b (got beside_joint (drop 4 s)) none ≡ got j t → 4 ≡ joint_code j
      go true f = let g : beside_joint ≡ j = cc in ap joint_code g
      go false f = absurd (let z : ◌≡◌ {A = ℕ} 0 1 = cc in omega arith)

-- ---- lists

take_set : (n : ℕ) (l : List ℕ) (i v : ℕ) → take n (set l i v) ≡ set (take n l) i v
take_set zero l i v = refl
take_set (suc n) [] i v = refl
take_set (suc n) (x ∷ l) zero v = refl
take_set (suc n) (x ∷ l) (suc i) v = ap (λ (t : List ℕ). x ∷ t) (take_set n l i v)

-- The innermost name goes out of scope.
scope_pop : (s names : List ℕ) (m : ℕ) → drop 1 (scope_of s names m) ≡ scope_of s names (m - 1)
unfolding scope_of
scope_pop s names zero = refl
scope_pop s names (suc m) = ap (scope_of s names) (sym (natural m))
  where
    natural : (m : ℕ) → suc m - 1 ≡ m
    natural m = omega arith

module _ (s : List ℕ) (frames : List Frame) (names out : List ℕ) (p : Cursor) (w : CursorFits s p) (z : p.mode ≡ After) where
  -- ---- with nothing open

  module _ (d : p.opened ≡ 0) where
    pub early_arm : (p.at ≡ length s → ⊥) → answer_at s frames names out p ≡ refused 25
    unfolding to_come after_formula finish
    early_arm n =
        let l : p.at < length s = omega (arith, w.place, n) in
        rw (z, d, drop-cons s p.at 0 l)

    pub whole_arm : p.at ≡ length s
        → Moved s frames names out p frames names out (record { mode = Whole; at = p.at; opened = p.opened; scope = p.scope; written = p.written; resolved = p.resolved })
    unfolding to_come after_formula finish
    whole_arm e =
        stops s frames names out p w (record { mode = Whole; at = p.at; opened = p.opened; scope = p.scope; written = p.written; resolved = p.resolved })
        (going p.mode (inr z)) refl (rw (z, d, drop_of_length-le s {i = p.at} (omega (arith, e))))
        (record { place = w.place; frames_fit = w.frames_fit; bytes_fit = w.bytes_fit; names_fit = w.names_fit })

  -- ---- with a frame open

  module _ (d : ℕ) (one_less : p.opened ≡ suc d) where
    module _ (f : get_or frames d Second ≡ Second) where
      pub unclosed_arm : starts (41 ∷ []) (drop p.at s) ≡ false → answer_at s frames names out p ≡ refused 25
      unfolding to_come
      unclosed_arm t =
          rw (z, one_less) (after_unclosed d frames (scope_of s names p.scope) (take p.written out) p.resolved (drop p.at s) f t)

      pub close_arm : starts (41 ∷ []) (drop p.at s) ≡ true
          → Moved s frames names out p frames names out
          (record { mode = p.mode; at = p.at + 1; opened = d; scope = p.scope; written = p.written; resolved = p.resolved })
      unfolding to_come
      close_arm t =
          goes s frames names out p w frames names out
          (record { mode = p.mode; at = p.at + 1; opened = d; scope = p.scope; written = p.written; resolved = p.resolved })
          (going p.mode (inr z))
          (rw (z, one_less, ← drop-drop 1 p.at s) (after_close d frames (scope_of s names p.scope) (take p.written out) p.resolved (drop p.at s) f t))
          (omega (arith, one_less))
          (record {
            place = word_fits s (41 ∷ []) p.at (omega arith) t;
            frames_fit = omega (arith, one_less, w.frames_fit);
            bytes_fit = omega (arith, w.bytes_fit);
            names_fit = omega (arith, w.names_fit);
          })

    pub range_over_arm : get_or frames d Second ≡ Range → (m : ℕ) → m ≡ p.scope - 1
        → Moved s frames names out p frames names out (record { mode = p.mode; at = p.at; opened = d; scope = m; written = p.written; resolved = p.resolved })
    unfolding to_come
    range_over_arm f m e =
        goes s frames names out p w frames names out
        (record { mode = p.mode; at = p.at; opened = d; scope = m; written = p.written; resolved = p.resolved })
        (going p.mode (inr z))
        (rw (z, one_less, e, ← scope_pop s names p.scope) (after_binding d frames (scope_of s names p.scope) (take p.written out) p.resolved (drop p.at s) f))
        (omega (arith, one_less))
        (record { place = w.place; frames_fit = omega (arith, one_less, w.frames_fit); bytes_fit = w.bytes_fit; names_fit = omega (arith, e, w.names_fit) })

    module _ (top : ℕ) (f : get_or frames d Second ≡ First top) where
      pub unjoined_arm : Found s None (joint (drop p.at s)) → answer_at s frames names out p ≡ refused 25
      unfolding to_come
      unjoined_arm g =
          rw (z, one_less) (after_unjoined d frames (scope_of s names p.scope) (take p.written out) p.resolved (drop p.at s) top f
          (found_none s (joint (drop p.at s)) g))

      pub joint_arm : (q : ℕ) → Found s (Some q) (joint (drop p.at s)) → p.opened ≤ length frames → (code : ℕ)
          → ((j : Joint) (t : List ℕ) → joint (drop p.at s) ≡ got j t → code ≡ joint_code j)
          → (out' : List ℕ) → out' ≡ set out top code
          → Moved s frames names out p (set frames d Second) names out'
          (record { mode = Before; at = q; opened = p.opened; scope = p.scope; written = p.written; resolved = p.resolved })
      unfolding to_come
      joint_arm q g l code k out' same =
          let h = found_some s (joint (drop p.at s)) q g in
          let c = joint_ends s p.at q h.2 w.place h.0 h.1 in
          goes s frames names out p w (set frames d Second) names out'
          (record { mode = Before; at = q; opened = p.opened; scope = p.scope; written = p.written; resolved = p.resolved })
          (going p.mode (inr z))
          (rw (z, same, take_set p.written out top code, k h.0 (drop q s) h.1) (joined h.0 h.1))
          (omega (arith, c))
          (record { place = h.2; frames_fit = omega (arith, c, w.frames_fit); bytes_fit = omega (arith, c, w.bytes_fit); names_fit = omega (arith, c, w.names_fit) })
        where
          joined : (j : Joint) → joint (drop p.at s) ≡ got j (drop q s)
              → after_formula p.opened frames (scope_of s names p.scope) (take p.written out) p.resolved (drop p.at s)
              ≡ before_formula p.opened (set frames d Second) (scope_of s names p.scope) (set (take p.written out) top (joint_code j)) p.resolved (drop q s)
          joined j e =
              ap (λ (n : ℕ). after_formula n frames (scope_of s names p.scope) (take p.written out) p.resolved (drop p.at s)) one_less
              ∙ after_joint d frames (scope_of s names p.scope) (take p.written out) p.resolved (drop p.at s) (drop q s) top j (omega (arith, one_less, l)) f e
              ∙ ap (λ (n : ℕ). before_formula n (set frames d Second) (scope_of s names p.scope) (set (take p.written out) top (joint_code j)) p.resolved (drop q s)) (sym one_less)
