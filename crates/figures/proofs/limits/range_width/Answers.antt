-- `figures::limits::range_width` meets its contract.
use Rattle.std.proofs.Common.{◌≡◌, ℕ, ◌≤◌, min, arith, ap, subst, ◌∙◌, ℤ, pos, nat_abs, ◌+ℤ◌, ◌-ℤ◌}
use Rattle.rule.specs.Meaning.{raised}
use Rattle.rule.specs.Figures.{width, positions_from}
use Rattle.figures.specs.Distances.{Near, farthest}
use Rattle.figures.proofs.Numbers.{bits, bits_are, abs_sum, abs_difference}
use Rattle.figures.proofs.limits.range_width.Goals as goal

-- u - l + 1, as its parts are read from their bits
counted : (u l : ℤ) → nat_abs u ≤ farthest → nat_abs l ≤ farthest → bits (bits (bits u -ℤ bits l) +ℤ pos 1) ≡ (u -ℤ l) +ℤ pos 1
counted u l h g =
    rw (bits_are u (omega arith), bits_are l (omega arith), bits_are (u -ℤ l) (omega (arith, abs_difference u l)))
    (bits_are ((u -ℤ l) +ℤ pos 1) (omega (arith, abs_sum (u -ℤ l) (pos 1), abs_difference u l)))

pub returns-in-At-At : goal.returns-in-At-At
unfolding width positions_from
returns-in-At-At c =
    let g : nat_abs c.in-At-At.lower ≤ farthest = subst (Near farthest) c.in-At-At.is-0 c.requires.0 in
    let h : nat_abs c.in-At-At.upper ≤ farthest = subst (Near farthest) c.in-At-At.is-1 c.requires.1 in
    c.capped.ensures ∙ rw (c.in-At-At.is-0, c.in-At-At.is-1) (ap (λ (n : ℕ). min n 4097) (c.at_least_zero.ensures ∙ ap raised (counted c.in-At-At.upper c.in-At-At.lower h g)))
