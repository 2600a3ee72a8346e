use Rattle.std.proofs.Common.{ℕ, ◌<◌, ◌≤◌, get_or}
use Rattle.cdcl_core.specs.Stamps.{codes, IsFalseBut}
use Rattle.cdcl_core.proofs.propagate.scan_part.Given as goal

abbrev pub invariant-loop-k : goal.invariant-loop-k
invariant-loop-k l = (i : ℕ) → l.start ≤ i → i < l.k → IsFalseBut l.stamps l.other (get_or (codes l.clause) i 0)
