use Rattle.proof_conversion.proofs.Filed.{AreFiled}
use Rattle.proof_conversion.proofs.deleting.places_due.Given as goal

abbrev pub invariant-loop-k : goal.invariant-loop-k
invariant-loop-k l = AreFiled l.parts l.steps l.last l.k l.lists.items
