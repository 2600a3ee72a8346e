use Rattle.std.proofs.Common.{length, get_or, []}
use Rattle.cdcl_core.proofs.Taking.{IsTaking}
use Rattle.cdcl_core.proofs.drop.take_out.Given as goal

abbrev pub invariant-places : goal.invariant-places
invariant-places l = IsTaking l.fn.lists l.lists l.list l.place

abbrev pub decreases-places : goal.decreases-places
decreases-places l = length (get_or l.lists.lists 0 [])
