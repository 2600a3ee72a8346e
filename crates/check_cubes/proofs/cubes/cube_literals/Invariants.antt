use Rattle.check_cubes.proofs.Cubed.{IsCubeSo}
use Rattle.check_cubes.proofs.cubes.cube_literals.Given as goal

abbrev pub invariant-variables : goal.invariant-variables
invariant-variables l = IsCubeSo l.variables l.cube l.variable-index l.rest l.literals.items
