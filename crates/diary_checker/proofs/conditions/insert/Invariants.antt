use Rattle.std.proofs.Common.{take}
use Rattle.diary_checker.specs.Tables.{IsSetOf}
use Rattle.diary_checker.proofs.conditions.insert.Given as goal

abbrev pub invariant-loop-l : goal.invariant-loop-l
invariant-loop-l l = IsSetOf l.table (take l.l-index l.literals)
