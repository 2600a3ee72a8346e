use Rattle.reached_steps.proofs.Taken.{taken_are_opening}
use Rattle.reached_steps.proofs.laws.taken_steps_are_opening.Goals as goal

pub returns : goal.returns
returns c = taken_are_opening
