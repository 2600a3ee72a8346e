use Rattle.bit_blast.specs.Assigned.{assigned}
use Rattle.access_walk.proofs.Permuted.{AreEntriesTo}
use Rattle.access_walk.proofs.values.Values.enter.Given as goal

abbrev pub invariant-loop-place : goal.invariant-loop-place
invariant-loop-place l = AreEntriesTo l.terms.nodes l.bits (assigned l.assignment) l.reached l.network l.place l.self.entries.items
