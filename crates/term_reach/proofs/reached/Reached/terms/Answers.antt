use Rattle.term_reach.proofs.Tables.{table_once}
use Rattle.term_reach.proofs.reached.Reached.terms.Goals as goal

pub returns-clause-once : goal.returns-clause-once
returns-clause-once c = rw (← c.self.view_is) (table_once c.self.inside.places.items c.self.inside.terms.items c.self.invariant)
