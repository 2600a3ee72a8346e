use Rattle.std.proofs.Common.{take}
use Rattle.cdcl_learn.specs.Walks.{IsMarked}
use Rattle.cdcl_learn.proofs.walk.mark.Given as goal

abbrev pub invariant-loop-l : goal.invariant-loop-l
invariant-loop-l l = IsMarked l.rows (take l.l-index l.clause) l.fn.marks l.marks
