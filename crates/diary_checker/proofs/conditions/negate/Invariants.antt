use Rattle.std.proofs.Common.{take}
use Rattle.std.specs.Prelude.{map}
use Rattle.cnf_base.specs.Literals.{negated}
use Rattle.diary_checker.specs.Tables.{IsSetOf}
use Rattle.diary_checker.proofs.conditions.negate.Given as goal

abbrev pub invariant-loop-l : goal.invariant-loop-l
invariant-loop-l l = IsSetOf l.trues (map negated (take l.l-index l.clause))
