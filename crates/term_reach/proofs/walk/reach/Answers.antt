use Rattle.std.proofs.Common.{◌<◌, length, arith}
use Rattle.std.proofs.lemmas.Option.{slice_get_within}
use Rattle.term_reach.proofs.Tables.{at_contained}
use Rattle.term_reach.proofs.Walking.{all_done}
use Rattle.term_reach.proofs.walk.reach.Goals as goal

pub returns : goal.returns
returns g c =
    all_done (length c.args.terms.now.nodes) (g.N.Next.next_of c.args.next.now c.args.terms.now.nodes) c.args.roots.now c.roots.reached c.roots.invariant.part
    (λ t h.
    let at = at_contained c.args.roots.now t h in
    let lt = slice_get_within c.args.roots.now at.0 t at.1 in
    let over = c.roots-test.false in
    let less : at.0 < c.roots.root-index = omega (arith, lt, over) in
    c.roots.invariant.done at.0 t less at.1)
