use Rattle.std.proofs.Common.{ℕ, ◌≢◌, ◌<◌, take, get_or}
use Rattle.cdcl_core.specs.Chains.{times}
use Rattle.cdcl_core.specs.Stamps.{codes}
use Rattle.cdcl_core.proofs.propagate.is_satisfied.Given as goal

abbrev pub invariant-loop-l : goal.invariant-loop-l
invariant-loop-l l = (m : ℕ) → 0 < times m (take l.l-index (codes l.clause)) → get_or l.stamps m 0 ≢ 1
