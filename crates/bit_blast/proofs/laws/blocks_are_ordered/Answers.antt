use Rattle.bit_blast.proofs.Ordered.{op_ordered}
use Rattle.bit_blast.proofs.laws.blocks_are_ordered.Goals as goal

pub returns : goal.returns
returns c = op_ordered
