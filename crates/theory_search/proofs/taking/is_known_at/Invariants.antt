use Rattle.std.proofs.Common.{◌≡◌, ◌<◌, List, Some}
use Rattle.cnf_base.specs.Literals.{Literal}
use Rattle.cnf_base.specs.declared.clause.ClauseId.{ClauseId}
use Rattle.proof_log.specs.Logs.{clause_at, state_of}
use Rattle.theory_search.specs.Theories.{AreKnown}
use Rattle.theory_search.proofs.taking.is_known_at.Given as goal

abbrev pub invariant-parts : goal.invariant-parts
invariant-parts g l = (id : ClauseId) (c : List Literal) → id.pos ≡ l.pos → id.part < l.part → clause_at (state_of (g.B.Board.nodes l.board) (g.B.Board.log l.board)).clauses id ≡ Some c → AreKnown l.variables l.next c
