use Rattle.access_walk.specs.Spread.{AreEncodedLemmas}
use Rattle.access_walk.proofs.siblings.put_siblings_of.Given as goal

abbrev pub invariant-loop-place : goal.invariant-loop-place
invariant-loop-place l = AreEncodedLemmas l.terms.nodes l.bits l.siblings.items
