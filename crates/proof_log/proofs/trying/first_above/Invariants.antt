use Rattle.std.proofs.Common.{take}
use Rattle.cnf_base.specs.Assignments.{AreBelow}
use Rattle.proof_log.proofs.trying.first_above.Given as goal

abbrev pub invariant-loop-l : goal.invariant-loop-l
invariant-loop-l l = AreBelow l.next (take l.l-index l.literals)
