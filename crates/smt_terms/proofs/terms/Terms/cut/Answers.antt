use Rattle.smt_terms.proofs.Making.{kept_cut}
use Rattle.smt_terms.proofs.terms.Terms.cut.Goals as goal

pub invariant_of-self : goal.invariant_of-self
invariant_of-self c = kept_cut _ _ _ c.args.self.now c.self.view_is c.self.invariant _ _ _ c.requires c.truncate.ensures.keys c.truncate-2.ensures.items
