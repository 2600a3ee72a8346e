use Rattle.proof_log.proofs.log.Log.step_of.Goals as goal

pub returns : goal.returns
returns c = rw (← c.self.view_is) c.of_term.ensures
