use Rattle.bit_blast.proofs.Sizes.{op_small}
use Rattle.bit_blast.proofs.laws.blocks_are_small.Goals as goal

pub returns : goal.returns
returns c = op_small
