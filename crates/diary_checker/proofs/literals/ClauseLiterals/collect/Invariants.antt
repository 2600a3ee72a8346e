use Rattle.std.proofs.Common.{take}
use Rattle.diary_checker.specs.Tables.{AreEach}
use Rattle.diary_checker.proofs.literals.ClauseLiterals.collect.Given as goal

abbrev pub invariant-loop-l : goal.invariant-loop-l
invariant-loop-l l = AreEach l.self.table l.self.each.items (take l.l-index l.clause)
