use Rattle.reached_steps.proofs.Separate.{openings_are_separate, stored_openings_are_separate}
use Rattle.reached_steps.proofs.laws.opening_steps_are_separate.Goals as goal

pub returns-clause-log : goal.returns-clause-log
returns-clause-log c = openings_are_separate

pub returns-clause-stored : goal.returns-clause-stored
returns-clause-stored c = stored_openings_are_separate
