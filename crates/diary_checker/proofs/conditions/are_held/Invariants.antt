use Rattle.std.proofs.Common.{◌≡◌, true, take}
use Rattle.std.specs.Prelude.{Contains}
use Rattle.cnf_base.specs.declared.clause.ClauseId.{ClauseId}
use Rattle.diary_checker.specs.Tables.{bit_in}
use Rattle.diary_checker.proofs.conditions.are_held.Given as goal

abbrev pub invariant-loop-k : goal.invariant-loop-k
invariant-loop-k l = (id : ClauseId) → Contains (take l.k l.hints) id → bit_in l.held id.pos ≡ true
