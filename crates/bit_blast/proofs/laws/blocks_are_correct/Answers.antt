use Rattle.bit_blast.proofs.Table.{op_correct}
use Rattle.bit_blast.proofs.laws.blocks_are_correct.Goals as goal

pub returns : goal.returns
returns c = op_correct
