use Rattle.reached_steps.proofs.Separate.{reached_are_separate, stored_are_separate}
use Rattle.reached_steps.proofs.laws.reached_steps_are_separate.Goals as goal

pub returns-clause-log : goal.returns-clause-log
returns-clause-log c = reached_are_separate

pub returns-clause-stored : goal.returns-clause-stored
returns-clause-stored c = stored_are_separate
