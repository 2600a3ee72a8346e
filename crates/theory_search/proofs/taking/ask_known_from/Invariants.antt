use Rattle.std.proofs.Common.{◌≡◌, ◌≤◌, ◌<◌, false, List, Some}
use Rattle.cnf_base.specs.Literals.{Literal}
use Rattle.cnf_base.specs.declared.clause.ClauseId.{ClauseId}
use Rattle.proof_log.specs.Logs.{clause_at, entry_at, state_of}
use Rattle.proof_log.specs.Diaries.{is_chain}
use Rattle.theory_search.specs.Theories.{AreKnown}
use Rattle.theory_search.proofs.taking.ask_known_from.Given as goal

abbrev pub invariant-steps : goal.invariant-steps
invariant-steps g l = (id : ClauseId) (c : List Literal) → l.fn.from ≤ id.pos → id.pos < l.pos → is_chain (entry_at (g.B.Board.log l.board) id.pos) ≡ false
    → clause_at (state_of (g.B.Board.nodes l.board) (g.B.Board.log l.board)).clauses id ≡ Some c → AreKnown l.variables l.next c
