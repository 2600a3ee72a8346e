use Rattle.std.proofs.Common.{subst}
use Rattle.smt_terms.specs.Terms.{AreTerms}
use Rattle.smt_terms.proofs.terms.Terms.node.Goals as goal

pub returns-clause-term : goal.returns-clause-term
returns-clause-term c =
    let terms : AreTerms c.args.self.now = subst AreTerms c.self.view_is c.self.invariant.0 in
    terms.list c.args.term c.requires.held
