use Rattle.std.proofs.Common.{[]}
use Rattle.reached_images.proofs.Whole.{ArePlannedTo}
use Rattle.reached_images.proofs.planning.plan_each.Given as goal

abbrev pub invariant-terms : goal.invariant-terms
invariant-terms l = ArePlannedTo l.fn.terms l.terms l.bits [] l.plan l.order l.term-index
