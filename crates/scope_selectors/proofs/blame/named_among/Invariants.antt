use Rattle.std.proofs.Common.{◌≡◌, take}
use Rattle.std.specs.Ordering.{nat_cmp}
use Rattle.std.specs.BTreeSet.{contains}
use Rattle.scope_selectors.specs.Cores.{core_among}
use Rattle.scope_selectors.proofs.blame.named_among.Given as goal

abbrev pub invariant-loop-assertion : goal.invariant-loop-assertion
invariant-loop-assertion l = l.core.items ≡ core_among (contains nat_cmp l.assertions) (take l.assertion-index l.live)
