use Rattle.script_state.proofs.Deciding.{reads_one_way}
use Rattle.script_state.proofs.laws.chunks_read_one_way.Goals as goal

pub returns : goal.returns
returns c = reads_one_way
