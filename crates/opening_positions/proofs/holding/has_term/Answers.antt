use Rattle.std.proofs.Common.{Some, None, refl}
use Rattle.opening_positions.proofs.Opens.{term_told, term_not_told}
use Rattle.opening_positions.proofs.holding.has_term.Goals as goal

pub returns-in-Some : goal.returns-in-Some
returns-in-Some c = term_told c.args.terms.now.nodes c.args.log.now c.args.held.now c.args.term c.in-Some.at (Some c.in-Some.at) c.has.result c.requires.stands refl c.in-Some.ensures c.has.ensures

pub returns-in-None : goal.returns-in-None
returns-in-None c = term_not_told c.args.log.now.entries c.args.held.now c.args.term None refl c.in-None.ensures
