use Rattle.bit_blast.proofs.Fixing.{blocks_extend}
use Rattle.bit_blast.proofs.laws.blocks_extend_assignments.Goals as goal

pub returns : goal.returns
returns c = blocks_extend
