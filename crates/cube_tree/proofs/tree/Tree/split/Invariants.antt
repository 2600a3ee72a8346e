use Rattle.cube_tree.proofs.Splits.{AreFirst}
use Rattle.cube_tree.proofs.tree.Tree.split.Given as goal

abbrev pub invariant-loop-number : goal.invariant-loop-number
invariant-loop-number l = AreFirst l.variables.items l.cubes.items l.number
