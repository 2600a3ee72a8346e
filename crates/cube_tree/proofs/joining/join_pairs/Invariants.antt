use Rattle.std.proofs.Common.{◌≡◌, ℕ, List, ◌∷◌, length}
use Rattle.cnf_base.specs.Literals.{Literal}
use Rattle.proof_log.specs.Logs.{clause_at}
use Rattle.proof_log.specs.Stored.{Stands}
use Rattle.cube_tree.specs.Closing.{AreClosing, HaveClauses}
use Rattle.proof_log.specs.Boards.{Grows}
use Rattle.cube_tree.proofs.joining.join_pairs.Given as goal

abbrev pub invariant-loop-m : goal.invariant-loop-m
invariant-loop-m l = record {
  stands : Stands l.terms.nodes l.log;
  grows : Grows l.fn.log.entries l.log.entries;
  clauses : HaveClauses (clause_at l.log.clauses) l.places;
  found : HaveClauses (clause_at l.log.clauses) l.joined.items;
  len : length l.joined.items ≡ l.m;
  closing : (assumed : List Literal) (rest : List ℕ) → AreClosing (clause_at l.fn.log.clauses) assumed (l.variable ∷ rest) l.places → AreClosing (clause_at l.log.clauses) assumed rest l.joined.items;
}
