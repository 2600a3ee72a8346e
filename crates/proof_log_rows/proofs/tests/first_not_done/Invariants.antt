use Rattle.proof_log.specs.Stored.{Stands}
use Rattle.proof_log_rows.proofs.tests.first_not_done.Given as goal

abbrev pub invariant-loop-at : goal.invariant-loop-at
invariant-loop-at l = Stands l.proof.terms.nodes l.proof.log
