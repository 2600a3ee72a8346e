use Rattle.std.proofs.Common.{◌≡◌, ◌++◌, drop}
use Rattle.cube_tree.specs.Cubes.{cube_of}
use Rattle.cube_tree.proofs.tree.cube_literals.Given as goal

abbrev pub invariant-loop-variable : goal.invariant-loop-variable
invariant-loop-variable l = l.literals.items ++ cube_of (drop l.variable-index l.variables) l.rest ≡ cube_of l.variables l.number
