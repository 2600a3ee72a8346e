use Rattle.std.proofs.Common.{◌≡◌, take}
use Rattle.std.specs.Prelude.{Contains}
use Rattle.cnf_base.specs.Literals.{Literal, negated}
use Rattle.diary_checker.specs.Tables.{number_of}
use Rattle.diary_checker.proofs.conditions.has_pair.Given as goal

abbrev pub invariant-loop-l : goal.invariant-loop-l
invariant-loop-l l = (k : Literal) → Contains (take l.l-index l.clause) k → number_of l.own (negated k) ≡ 0
