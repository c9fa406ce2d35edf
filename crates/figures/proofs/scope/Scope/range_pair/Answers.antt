-- `figures::scope::Scope::range_pair` meets its contract.
use Rattle.figures.specs.Scopes.{inside}
use Rattle.figures.proofs.Distances.{bound_near}
use Rattle.figures.proofs.scope.Scope.range_pair.Goals as goal

pub returns-clause-near : goal.returns-clause-near
returns-clause-near c =
    let s = c.args.self.now in
    ((bound_near _ s.depth _ (inside s) s.near _ c.pair_at-first.ensures).0, (bound_near _ s.depth _ (inside s) s.near _ c.pair_at-second.ensures).1)
