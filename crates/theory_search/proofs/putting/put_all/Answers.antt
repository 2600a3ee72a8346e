use Rattle.std.proofs.Common.{sym}
use Rattle.theory_search.proofs.Grown.{ready_more}
use Rattle.theory_search.proofs.putting.put_all.Goals as goal

pub put-requires-clause-ready : goal.put-requires-clause-ready
put-requires-clause-ready g c = ready_more c.lemma-item.result _ _ _ _ _ _ c.lemmas.invariant (c.requires.ready c.lemma-item.result (c.lemmas.lemma-index, c.lemmas-test.true, sym c.lemma-item.is))
