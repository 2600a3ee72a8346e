use Rattle.smt_terms.proofs.Making.{stored_sort}
use Rattle.smt_terms.proofs.terms.Terms.sort.Goals as goal

pub returns : goal.returns
returns c = stored_sort _ _ _ _ c.self.view_is c.self.invariant.1 _ _ c.requires.held c.index.ensures
