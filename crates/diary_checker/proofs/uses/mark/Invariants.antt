use Rattle.std.proofs.Common.{take}
use Rattle.std.specs.Prelude.{Contains}
use Rattle.cnf_base.specs.Literals.{Literal}
use Rattle.diary_checker.specs.Uses.{IsGiven}
use Rattle.diary_checker.proofs.uses.mark.Given as goal

abbrev pub invariant-loop-l : goal.invariant-loop-l
invariant-loop-l l = (x : Literal) → IsGiven (Contains (take l.l-index l.clause) x) l.number l.fn.table l.table x
