use Rattle.std.proofs.Common.{arith}
use Rattle.std.proofs.Math.Pow.{pow_mono}
use Rattle.cube_tree.proofs.tree.Tree.leaves.Goals as goal

pub returns-clause-bound : goal.returns-clause-bound
returns-clause-bound c = omega (arith, c.len.ensures, c.self.invariant.count, pow_mono c.self.invariant.depth)
