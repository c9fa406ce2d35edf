-- What a step that is there, or is not, says of the number that stands for it.
use Prim.Native.Nat.{ℕ}
use mathlib.Core.Path.{◌≡◌, refl, sym, ap, ◌∙◌}
use mathlib.Core.Bool.{Bool, true, false, cond}
use lib.Dec.{ltb}
use Rattle.std.specs.Prelude.{Option, Some, None}
use Rattle.std.specs.Option.{is_some}
use Rattle.complete_report.specs.FalseSteps.{step_below}

pub below_some : (end d : ℕ) {s : ℕ} → Some s ≡ step_below end d → (ltb d end ≡ true) × (s ≡ d)
below_some end d {s} = go (ltb d end)
  where
    go : (b : Bool) → Some s ≡ cond b (Some d) None → (b ≡ true) × (s ≡ d)
    go true e = (refl, cc)
    go false e = cc

pub below_none : (end d : ℕ) → None ≡ step_below end d → ltb d end ≡ false
below_none end d = go (ltb d end)
  where
    go : (b : Bool) → None ≡ cond b (Some d) None → b ≡ false
    go true e = cc
    go false e = refl

pub below_is_some : (end d : ℕ) {o : Option ℕ} {b : Bool} → o ≡ step_below end d → b ≡ is_some o → ltb d end ≡ b
below_is_some end d {o} {b} e h = sym (h ∙ ap is_some e ∙ go (ltb d end))
  where
    go : (x : Bool) → is_some (cond x (Some d) None) ≡ x
    go true = refl
    go false = refl
