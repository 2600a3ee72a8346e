use Rattle.std.proofs.Common.{ℕ, ◌*◌, ◌<◌, ◌≤◌, take}
use Rattle.cdcl_core.specs.Chains.{times}
use Rattle.cdcl_core.specs.Stamps.{codes}
use Rattle.cdcl_core.proofs.add.bound_of.Given as goal

abbrev pub invariant-loop-l : goal.invariant-loop-l
invariant-loop-l l = record {
  some : 1 ≤ l.bound;
  below : (m : ℕ) → 0 < times m (take l.l-index (codes l.clause)) → (2 ≤ m) × (m < 2 * l.bound);
}
