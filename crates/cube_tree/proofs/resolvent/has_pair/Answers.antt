use Rattle.std.proofs.lemmas.Bool.{iff_false, false≢true}
use Rattle.cube_tree.proofs.Pairs.{none_more, no_pair}
use Rattle.cube_tree.proofs.resolvent.has_pair.Goals as goal

pub loop-literal-preserved : goal.loop-literal-preserved
loop-literal-preserved c =
    none_more c.args.clause.now c.loop-literal.literal-index _ c.literal-item.result c.literal-item.is c.loop-literal-test.true c.loop-literal.invariant (rw c.negated.ensures at (iff_false c.has.ensures c.if-has.false))

pub returns : goal.returns
returns c = ((λ t. absurd (false≢true t)), (λ p. absurd (no_pair c.args.clause.now c.loop-literal.literal-index c.loop-literal-test.false c.loop-literal.invariant p)))
