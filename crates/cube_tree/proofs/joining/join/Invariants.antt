use Rattle.std.proofs.Common.{◌≡◌, ◌^◌, List, length, drop}
use Rattle.cnf_base.specs.Literals.{Literal}
use Rattle.proof_log.specs.Logs.{clause_at}
use Rattle.proof_log.specs.Stored.{Stands}
use Rattle.cube_tree.specs.Closing.{AreClosing, HaveClauses}
use Rattle.proof_log.specs.Boards.{Grows}
use Rattle.cube_tree.proofs.joining.join.Given as goal

abbrev pub invariant-loop-variable : goal.invariant-loop-variable
invariant-loop-variable l = record {
  stands : Stands l.terms.nodes l.log;
  grows : Grows l.fn.log.entries l.log.entries;
  clauses : HaveClauses (clause_at l.log.clauses) l.places.items;
  len : length l.places.items ≡ 2 ^ length (drop l.variable-index l.tree);
  closing : (assumed : List Literal) → AreClosing (clause_at l.fn.log.clauses) assumed l.tree l.closed → AreClosing (clause_at l.log.clauses) assumed (drop l.variable-index l.tree) l.places.items;
}
