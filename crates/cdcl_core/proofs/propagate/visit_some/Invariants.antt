use Rattle.std.proofs.Common.{◌≡◌, length, get_or, []}
use Rattle.cdcl_core.specs.Chains.{first_of}
use Rattle.cdcl_core.specs.State.{IsVisiting, IsGrown}
use Rattle.cdcl_core.proofs.propagate.visit_some.Given as goal

abbrev pub invariant-places : goal.invariant-places
invariant-places l = record {
  visiting : IsVisiting l.w l.t l.p 0;
  first : l.place ≡ first_of (get_or l.w.lists.lists 0 []);
  same : l.w ≡ record l.fn.w { lists = l.w.lists };
  head : l.t.head ≡ l.fn.t.head;
  level : l.t.level ≡ l.fn.t.level;
  grown : IsGrown l.fn.t l.t;
  size : length l.t.stamps.items ≡ length l.fn.t.stamps.items;
}

abbrev pub decreases-places : goal.decreases-places
decreases-places l = length (get_or l.w.lists.lists 0 [])
