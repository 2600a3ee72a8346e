use Rattle.theory_search.proofs.Grown.{ready_more}
use Rattle.theory_search.proofs.putting.put.Goals as goal

pub next_want-requires-clause-ready : goal.next_want-requires-clause-ready
next_want-requires-clause-ready g c = ready_more c.args.lemma.now _ _ _ _ _ _ c.equalities.invariant c.requires.ready
