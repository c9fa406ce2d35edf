-- One rule's tick as a part of a set's step, from the promise of a step of one rule.
use Prim.Native.Nat.{ℕ, ◌*◌}
use mathlib.Core.Path.{◌≡◌, sym, ap, subst, ◌∙◌}
use mathlib.Core.List.{List}
use native.Mathlib.Omega.{arith}
use lib.ListN.{length, take, length-take}
use lib.Seq.{take_all}
use Rattle.rule.specs.declared.Figures.{Figures}
use Rattle.demand.specs.Contract.{State, Taken, Step, Invariant, Takes}
use Rattle.demand.specs.SetContract.{Ticked}

-- A step of one rule whose cells are no more than the needed ones takes a tick. So `Ticked` is the weaker promise; SetTheorem's `own_takes` is the other
-- direction.
pub ticked : (Stands : Invariant) (s : State) (k : Step) (f : Figures) (a : Taken) → length k.cells ≡ 4 * f.cells → Takes Stands s k f a
    → Ticked Stands s f k.flag k.history k.cells k.cells' (take a.reported k.report') a.state
ticked Stands s k f a size w =
    let e : take (4 * f.cells) k.cells ≡ k.cells = take_all (4 * f.cells) k.cells (omega arith) in
    let e' : take (4 * f.cells) k.cells' ≡ k.cells' = take_all (4 * f.cells) k.cells' (omega (arith, w.cells_length)) in
    let counted : a.state.live_count ≡ a.live_count = ap (λ (y : State). y.live_count) w.state in
    record {
      few = omega (arith, w.few, length-take a.reported k.report');
      few_live = omega (arith, w.few_live, counted);
      means = λ F b flags now kept st.
          let m = w.means F b flags now kept (subst (λ (l : List ℕ). Stands s l flags) (sym e) st) in
          record {
            words = m.words;
            open_ticks = counted ∙ m.open_ticks;
            stands = subst (λ (l : List ℕ). Stands a.state l flags) e' m.stands;
          };
    }
