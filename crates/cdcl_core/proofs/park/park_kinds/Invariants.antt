use Rattle.cdcl_core.proofs.Parking.{IsParkedBefore}
use Rattle.cdcl_core.proofs.park.park_kinds.Given as goal

abbrev pub invariant-loop-slot : goal.invariant-loop-slot
invariant-loop-slot l = IsParkedBefore l.fn.kinds.items l.kinds.items l.slot
