use Rattle.smt_session.proofs.last.Last.keep.Goals as goal

pub invariant_of-self : goal.invariant_of-self
invariant_of-self c = rw c.self.view_is c.requires
