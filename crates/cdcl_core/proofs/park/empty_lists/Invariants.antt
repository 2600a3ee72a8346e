use Rattle.cdcl_core.specs.State.{IsEmptied}
use Rattle.cdcl_core.proofs.park.empty_lists.Given as goal

abbrev pub invariant-loop-code : goal.invariant-loop-code
invariant-loop-code l = IsEmptied l.fn.lists l.lists l.code
