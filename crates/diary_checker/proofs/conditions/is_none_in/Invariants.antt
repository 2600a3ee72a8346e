use Rattle.std.proofs.Common.{◌≡◌, take}
use Rattle.std.specs.Prelude.{Contains}
use Rattle.cnf_base.specs.Literals.{Literal}
use Rattle.diary_checker.specs.Tables.{number_of}
use Rattle.diary_checker.proofs.conditions.is_none_in.Given as goal

abbrev pub invariant-loop-l : goal.invariant-loop-l
invariant-loop-l l = (k : Literal) → Contains (take l.l-index l.clause) k → number_of l.table k ≡ 0
