use Rattle.std.proofs.Common.{rules}
use Rattle.history_client.proofs.Tallies.{notes_one, claims_one, claims_none, finishes_one}
use Rattle.history_client.proofs.law.PoolLaw.act.Goals as goal

pub returns-else-before : goal.returns-else-before
returns-else-before c = λ h s may. notes_one _ _ _ _ _ _ c.in-Note.is h s.0 s.1

pub returns-then-state-self : goal.returns-then-state-self
returns-then-state-self c = λ h s may. claims_one _ _ _ _ _ (search rules) (search rules) h s.0 s.1

pub returns-else-state-self : goal.returns-else-state-self
returns-else-state-self c = λ h s may. claims_none _ _ _ _ _ (search rules) (search rules) h s.0 s.1

pub returns-in-Finish : goal.returns-in-Finish
returns-in-Finish c = λ h s may. finishes_one _ _ _ _ _ (search rules) h s.0 s.1
