use Rattle.access_walk.specs.Spread.{AreEncodedLemmas}
use Rattle.access_walk.proofs.siblings.siblings_of.Given as goal

abbrev pub invariant-loop-lemma : goal.invariant-loop-lemma
invariant-loop-lemma l = AreEncodedLemmas l.terms.nodes l.bits l.siblings.items
