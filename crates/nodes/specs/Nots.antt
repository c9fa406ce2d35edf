-- A run of nots: what stands under it.
use Rattle.std.specs.Prelude.{ℕ, zero, suc, ◌+◌, Bool, cond, not, List, eqb, get_or}
use Rattle.nodes.specs.declared.operand.Operand.{Operand}

-- The formula under the nots at word `node`, with `left` formulas left; `odd` says whether those that were passed so far are odd in number.
unfoldable pub past_nots : ℕ → List ℕ → ℕ → Bool → Operand
past_nots zero ns node odd = record { left = zero; node = node; odd = odd }
past_nots (suc left) ns node odd =
    cond (eqb (get_or ns (node + 0) 0) 2) (past_nots left ns (node + 12) (not odd)) (record { left = suc left; node = node; odd = odd })
