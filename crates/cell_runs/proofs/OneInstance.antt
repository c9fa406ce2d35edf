-- An instance is the position p of a range with no variable before it, started at p.
use Prim.Native.Nat.{ℕ, zero, suc, ◌≤◌, max}
use mathlib.Core.Path.{◌≡◌, refl, sym, ap, ◌∙◌}
use mathlib.Core.Logic.{inl, inr, ⊎_elim}
use mathlib.Core.List.{List, [], ◌∷◌}
use native.Mathlib.Omega.{arith}
use lib.ListN.{get_or}
use Rattle.rule.specs.declared.Verdict.{Verdict}
use Rattle.rule.specs.declared.Outcome.{Outcome}
use Rattle.rule.specs.declared.Outcome.TheVariants.{Decided}
use Rattle.rule.specs.Meaning.{rule}
use Rattle.rule.specs.Figures.{at_tick}
use Rattle.rule.proofs.Pairs.{fits_tick}
use Rattle.rule.proofs.Progress.{clash, stays}
use Rattle.cell_runs.specs.Tree.{Tree, formula_of}
use Rattle.cells.specs.Cells.{held}
use Rattle.cell_runs.specs.Run.{out, SlotHolds, SlotReady}
use Rattle.cell_runs.specs.Calls.{SlotFit, AtHand, PositionAdvanced}
use Rattle.cell_runs.specs.Instances.{InstanceFit, InstanceMoved}

max_self : (p : ℕ) → max p p ≡ p
max_self p = omega arith

zeros : (v : ℕ) → ◌≡◌ {A = ℕ} (get_or (0 ∷ 0 ∷ 0 ∷ 0 ∷ 0 ∷ []) v 0) 0
zeros zero = refl
zeros (suc zero) = refl
zeros (suc (suc zero)) = refl
zeros (suc (suc (suc zero))) = refl
zeros (suc (suc (suc (suc zero)))) = refl
zeros (suc (suc (suc (suc (suc v))))) = refl

pub slot_fit : (F : Tree) (t p len : ℕ) → InstanceFit F t p len
    → SlotFit F (record { known = 0; pos = 0 ∷ 0 ∷ 0 ∷ 0 ∷ 0 ∷ []; bytes = 0 ∷ 0 ∷ 0 ∷ 0 ∷ 0 ∷ [] }) t p len
slot_fit F t p len f =
    record {
      pairs = at_tick ∷ [];
      fits = fits_tick p;
      size = refl;
      formed = f.formed;
      room = f.room;
      low = f.low;
      near = f.near;
      come = f.come;
      past = λ v. omega (arith, zeros v);
      unbound = λ v h. zeros v;
      five_places = refl;
      five_bytes = refl;
      few = omega arith;
    }

pub moved_of : (F : Tree) (hist : List ℕ) (b t p : ℕ) (pos byte cell cell' : List ℕ) (r : Outcome)
    → PositionAdvanced F hist b (record { known = 0; pos = pos; bytes = byte }) p t p cell r cell' → InstanceMoved F hist b t p cell r cell'
unfolding SlotReady rule
moved_of F hist b t p pos byte cell cell' r x = record {
  gives = λ flags H same reach found.
      let hon : AtHand flags H hist b (record { known = 0; pos = pos; bytes = byte }) t = record { stream = same; saved = λ v l. absurd (omega arith) } in
      let y = x.gives flags H hon (rw (max_self p) (omega arith, reach)) (⊎_elim (λ z. inl z) (λ z. inr (z.0, z.1, z.2, λ g. z.3)) found) in
      (y.0 ∙ ap (λ (s : ℕ). out flags t (p ∷ []) s F) (max_self p), y.1);
}

-- It was decided before: what its cell says goes on.
pub stood_of : (F : Tree) (hist : List ℕ) (b t p : ℕ) (cell : List ℕ) (r : Outcome) (v : Verdict) (d : ℕ) → (p ≡ t → ⊥) → r ≡ held p (get_or cell 0 0) (get_or cell 2 0) → r ≡ Decided v d
    → InstanceMoved F hist b t p cell r cell
unfolding SlotHolds rule
stood_of F hist b t p cell r v d ne er ed = record {
  gives = λ flags H same reach found. ⊎_elim
      (λ et. absurd (ne (sym et)))
      (λ y.
      let one : max p p ≡ p = max_self p in
      let le : p ≤ y.0 = y.2 in
      let was : out flags y.0 (p ∷ []) (max p p) F ≡ Decided v d = y.3.1.0 ∙ sym er ∙ ed in
      let now : out flags t (p ∷ []) (max p p) F ≡ Decided v d = rw y.1 (stays (formula_of F) flags (p ∷ []) (max p p) y.0 d v (omega arith) was) in
      (ed ∙ sym now ∙ ap (λ (s : ℕ). out flags t (p ∷ []) s F) one, (y.3.0, (now ∙ sym ed ∙ er, λ x. clash (out flags t (p ∷ []) (max p p) F) x now))))
      found;
}
