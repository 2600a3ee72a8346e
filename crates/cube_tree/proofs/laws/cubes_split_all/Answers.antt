use Rattle.cube_tree.proofs.Splits.{split_all}
use Rattle.cube_tree.proofs.laws.cubes_split_all.Goals as goal

pub returns : goal.returns
returns c = split_all
