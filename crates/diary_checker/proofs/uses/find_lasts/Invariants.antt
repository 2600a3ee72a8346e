use Rattle.std.proofs.Common.{◌<◌, ℕ}
use Rattle.std.specs.Prelude.{◌↔◌}
use Rattle.cnf_base.specs.Literals.{Literal}
use Rattle.proof_log.specs.Logs.{clause_at}
use Rattle.diary_checker.specs.Tables.{number_of}
use Rattle.diary_checker.specs.Uses.{StandsFrom}
use Rattle.diary_checker.proofs.uses.find_lasts.Given as goal

abbrev pub invariant-loop-k : goal.invariant-loop-k
invariant-loop-k l = (x : Literal) (j : ℕ) → (j < number_of l.lasts x) ↔ StandsFrom (clause_at l.log.clauses) l.hints j l.k x
