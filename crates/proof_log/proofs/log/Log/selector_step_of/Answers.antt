use Rattle.proof_log.proofs.log.Log.selector_step_of.Goals as goal

pub returns : goal.returns
returns c = rw (← c.self.view_is) c.of_assertion.ensures
