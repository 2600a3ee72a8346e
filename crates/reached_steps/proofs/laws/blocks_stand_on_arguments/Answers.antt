use Rattle.reached_steps.proofs.Clauses.{blocks_stand}
use Rattle.reached_steps.proofs.laws.blocks_stand_on_arguments.Goals as goal

pub returns : goal.returns
returns c = blocks_stand
