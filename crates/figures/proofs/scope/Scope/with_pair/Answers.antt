-- `figures::scope::Scope::with_pair` meets its contract.
use Rattle.std.proofs.Common.{◌+◌, ◌*◌, ◌<◌, length, sym, subst, arith, rules}
use Rattle.std.proofs.lemmas.List.{take_more_set}
use Rattle.figures.specs.Distances.{AllNear}
use Rattle.figures.specs.Scopes.{inside}
use Rattle.figures.proofs.Distances.{within_more}
use Rattle.figures.proofs.scope.Scope.with_pair.Goals as goal

pub invariant_of-result : goal.invariant_of-result
invariant_of-result c =
    let s = c.args.self.now in
    let d = s.depth in
    let room : d + 1 < length s.pairs = search rules in
    record {
      nested = omega arith;
      near = subst (AllNear (32768 * (d + 1))) (sym (take_more_set s.pairs (d + 1) c.args.pair room))
          (within_more (32768 * d) (32768 * (d + 1)) (inside s) c.args.pair (omega arith) s.near c.requires.near);
    }
