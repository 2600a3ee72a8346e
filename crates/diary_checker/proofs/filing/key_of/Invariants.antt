use Rattle.std.proofs.Common.{take}
use Rattle.diary_checker.specs.Tables.{IsShortest}
use Rattle.diary_checker.proofs.filing.key_of.Given as goal

abbrev pub invariant-loop-l : goal.invariant-loop-l
invariant-loop-l l = IsShortest l.watches (take l.l-index l.clause) l.key
