use Rattle.reached_steps.proofs.Separate.{openings_are_apart}
use Rattle.reached_steps.proofs.laws.opening_steps_are_apart.Goals as goal

pub returns : goal.returns
returns c = openings_are_apart
