use Rattle.std.proofs.Common.{ℕ, ◌<◌, ◌≡◌, List}
use Rattle.std.specs.Prelude.{slice_get, Some}
use Rattle.cnf_base.specs.Literals.{Literal}
use Rattle.proof_log.specs.Logs.{clause_at}
use Rattle.cube_tree.specs.Closing.{first_of}
use Rattle.cube_tree.proofs.tests.are_there.Given as goal

abbrev pub invariant-loop-place : goal.invariant-loop-place
invariant-loop-place l = (n p : ℕ) → n < l.place-index → slice_get l.places n ≡ Some p → (c : List Literal) × (clause_at l.log.clauses (first_of p) ≡ Some c)
