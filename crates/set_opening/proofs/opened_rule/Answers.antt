-- `set_opening::opened_rule` meets its contract.
use native.Mathlib.Omega.{arith}
use mathlib.Core.Path.{sym, ap}
use Rattle.std.specs.Prelude.{Ok}
use Rattle.admission.proofs.Admits.{small}
use Rattle.set_opening.proofs.Writes.{no_place, place_ends, no_figures_here, small_place, opened_here}
use Rattle.set_opening.proofs.opened_rule.Goals as goal

pub returns-in_err-place : goal.returns-in_err-place
returns-in_err-place c figures e = no_place _ _ _ figures c.in_err-place.ensures e

pub overflow_add-place : goal.overflow_add-place
overflow_add-place c =
    let h = place_ends _ _ _ c.in_ok-place.ensures in
    omega arith

pub slice_bounds-figures-end : goal.slice_bounds-figures-end
slice_bounds-figures-end c = place_ends _ _ _ c.in_ok-place.ensures

pub returns-in_err-figures : goal.returns-in_err-figures
returns-in_err-figures c figures e = no_figures_here _ _ _ c.in_ok-place.ensures _ figures c.in_err-figures.ensures e

pub overflow_cast-result : goal.overflow_cast-result
overflow_cast-result c =
    let h = small_place c.args.sheet.now c.args.index _ c.in_ok-place.ensures (λ j. omega (arith, c.shared_slice_known-1.given j)) in
    omega (arith, h.0)

pub overflow_cast-result-2 : goal.overflow_cast-result-2
overflow_cast-result-2 c =
    let h = small_place c.args.sheet.now c.args.index _ c.in_ok-place.ensures (λ j. omega (arith, c.shared_slice_known-1.given j)) in
    omega (arith, h.1)

pub overflow_cast-result-4 : goal.overflow_cast-result-4
overflow_cast-result-4 c = let w = small _ _ (sym c.in_ok-figures.ensures) in omega (arith, w.few)

pub overflow_cast-result-5 : goal.overflow_cast-result-5
overflow_cast-result-5 c = let w = small _ _ (sym c.in_ok-figures.ensures) in omega (arith, w.short)

pub returns : goal.returns
returns c figures e = ap Ok (opened_here _ _ _ c.in_ok-place.ensures _ _ _ figures c.in_ok-figures.ensures e)
