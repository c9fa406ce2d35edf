-- An element of an array in a cell, at an index that is known only as a number: `types.Part`'s `sub` for an array. It says nothing of the crate.
--     element k      element k of an array's cell that p finds, at its place
-- Assumes `Logic` (of it `at_elems` and `elems_at`).
use mathlib.Core.Path.{◌≡◌, ◌∙◌, ap, subst}
use Prim.Native.Nat.{ℕ, zero, suc, ◌+◌, ◌<◌}
use native.Mathlib.Nat.{not-suc-le-zero, le_of_suc-le-suc}
use mathlib.Core.List.{List, [], ◌∷◌}
use lib.ListN.{length, get_or, set, length-set}
use lib.Seq.{set-get_or}
use seplogic.Ra.Ura.{Ura}
use mir.Syntax.{Ty, ty_array}
use mir.Val.{Val, vstruct, of_list}
use base.Logic.{SProp, ent, sep, wand, all, apply∗, all_e}
use base.Fml.{Share, fat}
use prog.Memory.{size}
use prog.Model.{elems}
use types.Logic.{Logic}
use types.Kit.{Item, ‵, raw, ◌⊛◌, mean, ◌$◌, ◌∵◌, !, qed, move, use1, use2, split, assume, frame, each, done}
use types.Part.{Part}
use denote.Index.{place}

module _ {M : Type 1} {𝓤 : Ura M} (𝓛 : Logic 𝓤) (q : Share) (τ : Ty) (b : ℕ) where
  -- the element's cell with any value gives back the array's cells, with that value in its place
  open 𝓛 use {H}

  abbrev Back : ℕ → List Val → ℕ → Val → SProp 𝓤
  Back o us k u = wand 𝓤 (H.at q τ b (place (size τ) o k) u) (elems 𝓤 H q τ b o (set us k u))

  one_out : (us : List Val) (k : ℕ) (d : Val) (o : ℕ) → k < length us
      → ent 𝓤 (elems 𝓤 H q τ b o us) (sep 𝓤 (H.at q τ b (place (size τ) o k) (get_or us k d)) (all 𝓤 (Back o us k)))
  one_out [] k d o h = absurd (not-suc-le-zero h)
  one_out (v ∷ us) zero d o h =
      qed 𝓛 ((‵ (fat q τ b o v) ⊛ raw (elems 𝓤 H q τ b (o + size τ) us)) ∷ []) ∵ split ! $ frame ! $
      each ! (Back o (v ∷ us) zero) (λ u. assume ! (‵ (fat q τ b o u)) $ frame ! $ done !)
  one_out (v ∷ us) (suc k) d o h =
      qed 𝓛 ((‵ (fat q τ b o v) ⊛ raw (elems 𝓤 H q τ b (o + size τ) us)) ∷ []) ∵ split ! $ move ! (1 ∷ []) $
      use1 𝓛 (‵ (fat q τ b (place (size τ) (o + size τ) k) (get_or us k d)) ⊛ raw (all 𝓤 (Back (o + size τ) us k))) (one_out us k d (o + size τ) (le_of_suc-le-suc h)) $ split ! $ frame ! $
      each ! (Back o (v ∷ us) (suc k)) (λ u. assume ! (‵ (fat q τ b (place (size τ) (o + size τ) k) u)) $
      move ! (1 ∷ []) $ use1 𝓛 (raw (Back (o + size τ) us k u)) (all_e 𝓤 (Back (o + size τ) us k) u) $ move ! (1 ∷ 0 ∷ []) $
      use2 𝓛 (raw (elems 𝓤 H q τ b (o + size τ) (set us k u))) (apply∗ 𝓤 (H.at q τ b (place (size τ) (o + size τ) k) u) (elems 𝓤 H q τ b (o + size τ) (set us k u))) $
      move ! (1 ∷ 0 ∷ []) $ frame ! $ done !)

abbrev array_val : List Val → Val
array_val us = vstruct (of_list us)

module _ {M : Type 1} {𝓤 : Ura M} {𝓛 : Logic 𝓤} {K : Type 0} where
  open 𝓛 use {H}

  pub element : K → {i : Item 𝓤} {q : Share} {τ : Ty} {n b o : ℕ} {back : Val → Item 𝓤} (us : List Val) (k : ℕ) (d : Val) → k < length us → length us ≡ n
      → Part K 𝓛 i q (ty_array τ n) b o (array_val us) back → Part K 𝓛 i q τ b (place (size τ) o k) (get_or us k d) (λ u. back (array_val (set us k u)))
  element t {i} {q} {τ} {n} {b} {o} {back} us k d h l p = record {
    out = qed 𝓛 (i ∷ []) ∵ use1 𝓛 (‵ (fat q (ty_array τ n) b o (array_val us)) ⊛ raw (all 𝓤 Entry)) p.out $ split ! $
        use1 𝓛 (raw (elems 𝓤 H q τ b o us)) (𝓛.laws.at_elems q τ n b o us) $
        use1 𝓛 (‵ (fat q τ b (place (size τ) o k) (get_or us k d)) ⊛ raw (all 𝓤 (Back 𝓛 q τ b o us k))) (one_out 𝓛 q τ b us k d o h) $ split ! $ frame ! $
        each ! (λ (u : Val). wand 𝓤 (H.at q τ b (place (size τ) o k) u) (mean 𝓛 (back (array_val (set us k u))))) (λ u. assume {P = mean 𝓛 (back (array_val (set us k u)))} ! (‵ (fat q τ b (place (size τ) o k) u)) $
        -- [the element's cell with u; the way back to the array's cells; the way back to the entry]
        move ! (1 ∷ []) $ use1 𝓛 (raw (Back 𝓛 q τ b o us k u)) (all_e 𝓤 (Back 𝓛 q τ b o us k) u) $ move ! (1 ∷ 0 ∷ []) $
        use2 𝓛 (raw (elems 𝓤 H q τ b o (set us k u))) (apply∗ 𝓤 (H.at q τ b (place (size τ) o k) u) (elems 𝓤 H q τ b o (set us k u))) $
        use1 𝓛 (‵ (fat q (ty_array τ n) b o (array_val (set us k u)))) (whole_in u) $
        move ! (1 ∷ []) $ use1 𝓛 (raw (Entry (array_val (set us k u)))) (all_e 𝓤 Entry (array_val (set us k u))) $ move ! (1 ∷ 0 ∷ []) $
        use2 𝓛 (back (array_val (set us k u))) (apply∗ 𝓤 (H.at q (ty_array τ n) b o (array_val (set us k u))) (mean 𝓛 (back (array_val (set us k u))))) $ done !);
    same = ap (λ (vs : List Val). back (array_val vs)) (set-get_or us k d) ∙ p.same;
  }
    where
      Entry : Val → SProp 𝓤
      Entry w = wand 𝓤 (H.at q (ty_array τ n) b o w) (mean 𝓛 (back w))

      whole_in : (u : Val) → ent 𝓤 (elems 𝓤 H q τ b o (set us k u)) (H.at q (ty_array τ n) b o (array_val (set us k u)))
      whole_in u = subst (λ (m : ℕ). ent 𝓤 (elems 𝓤 H q τ b o (set us k u)) (H.at q (ty_array τ m) b o (array_val (set us k u)))) (length-set us k u ∙ l) (𝓛.laws.elems_at q τ b o (set us k u))
