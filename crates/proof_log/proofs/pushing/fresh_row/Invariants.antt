use Rattle.std.proofs.Common.{◌≡◌}
use Rattle.cnf_base.specs.Assignments.{fresh_bits}
use Rattle.proof_log.proofs.pushing.fresh_row.Given as goal

abbrev pub invariant-loop-k : goal.invariant-loop-k
invariant-loop-k l = l.row.items ≡ fresh_bits l.first l.k
