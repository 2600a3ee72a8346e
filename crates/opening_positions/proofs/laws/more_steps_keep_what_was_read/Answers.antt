use Rattle.opening_positions.proofs.Kept.{more_keep_read}
use Rattle.opening_positions.proofs.laws.more_steps_keep_what_was_read.Goals as goal

pub returns : goal.returns
returns c = more_keep_read
