use Rattle.std.proofs.Common.{◌≡◌, flat_map, take}
use Rattle.cube_tree.specs.Cubes.{AreVariables}
use Rattle.check_cubes.specs.Searches.{declared_variables}
use Rattle.check_cubes.proofs.leaves.declared_variables.Given as goal

abbrev pub invariant-terms : goal.invariant-terms
invariant-terms l = (l.variables.items ≡ flat_map (declared_variables l.terms.nodes l.log.bits) (take l.term-index l.reached)) × AreVariables l.variables.items
