use Rattle.std.proofs.Common.{take}
use Rattle.cnf_base.specs.Assignments.{AreBelow}
use Rattle.faded_log.proofs.log.are_below.Given as goal

abbrev pub invariant-loop-l : goal.invariant-loop-l
invariant-loop-l l = AreBelow l.next (take l.l-index l.literals)
