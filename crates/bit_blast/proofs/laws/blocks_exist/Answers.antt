use Rattle.bit_blast.proofs.Existing.{op_there}
use Rattle.bit_blast.proofs.laws.blocks_exist.Goals as goal

pub returns : goal.returns
returns c = op_there
