use Rattle.proof_log.proofs.steps.Steps.of_term.Goals as goal

pub returns : goal.returns
returns c = rw (← c.self.view_is, c.place_of.ensures, c.deref.ensures.value) (c.self.invariant.bits c.args.term)
