use Rattle.std.proofs.Common.{◌≡◌, length, get_or, []}
use Rattle.cdcl_core.specs.State.{IsVisiting}
use Rattle.cdcl_core.proofs.propagate.put_back.Given as goal

abbrev pub invariant-places : goal.invariant-places
invariant-places l = record {
  visiting : IsVisiting l.w l.t l.p l.stop;
  same : l.w ≡ record l.fn.w { lists = l.w.lists };
}

abbrev pub decreases-places : goal.decreases-places
decreases-places l = length (get_or l.w.lists.lists 0 [])
