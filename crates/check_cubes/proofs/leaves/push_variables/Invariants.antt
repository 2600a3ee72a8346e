use Rattle.std.proofs.Common.{◌≡◌, ◌++◌, map, take}
use Rattle.cnf_base.specs.Literals.{Literal}
use Rattle.cube_tree.specs.Cubes.{AreVariables}
use Rattle.check_cubes.proofs.leaves.push_variables.Given as goal

abbrev pub invariant-literals : goal.invariant-literals
invariant-literals l = (l.to.items ≡ l.fn.to.items ++ map (λ (b : Literal). b.variable) (take l.literal-index l.literals)) × AreVariables l.to.items
