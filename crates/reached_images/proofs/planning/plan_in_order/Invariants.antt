use Rattle.reached_images.proofs.Whole.{ArePlannedTo}
use Rattle.reached_images.proofs.planning.plan_in_order.Given as goal

abbrev pub invariant-terms : goal.invariant-terms
invariant-terms l = ArePlannedTo l.fn.terms l.terms l.bits l.fn.plan l.plan l.order l.term-index
