use Rattle.cube_tree.proofs.Pairs.{NoneBelow}
use Rattle.cube_tree.proofs.resolvent.has_pair.Given as goal

abbrev pub invariant-loop-literal : goal.invariant-loop-literal
invariant-loop-literal l = NoneBelow l.clause l.literal-index
