use Rattle.access_walk.proofs.Taken.{AreWidthsTo}
use Rattle.access_walk.proofs.spares.filled_widths.Given as goal

abbrev pub invariant-loop-term : goal.invariant-loop-term
invariant-loop-term l = AreWidthsTo l.terms.nodes l.bits l.reached l.term-index l.found.items
