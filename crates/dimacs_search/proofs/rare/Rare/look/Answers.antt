use Rattle.std.proofs.Common.{◌∙◌, subst}
use Rattle.dimacs_search.specs.Searching.{IsKeeping}
use Rattle.dimacs_search.proofs.Holding.{keeping_then}
use Rattle.dimacs_search.proofs.rare.Rare.look.Goals as goal

pub returns-clause-keeping : goal.returns-clause-keeping
returns-clause-keeping c =
    let first = c.args.self.now.first in
    let a = c.args.engine.now.watches in
    let b = c.calm.new.engine.watches in
    let d = c.thin.new.engine.watches in
    let e = c.rouse.new.engine.watches in
    keeping_then first a b e c.calm.ensures.keeping
    (keeping_then first b d e
    (subst (λ n. IsKeeping n b d) c.calm.ensures.first c.in_ok-thin.ensures.keeping)
    (subst (λ n. IsKeeping n d e) (c.thin.ensures.first ∙ c.calm.ensures.first) c.rouse.ensures.keeping))
