use Rattle.proof_log.specs.Stored.{Stands}
use Rattle.proof_log_rows.proofs.lemma_board_tests.tried.Given as goal

abbrev pub invariant-loop-at : goal.invariant-loop-at
invariant-loop-at l = Stands l.proof.terms.nodes l.proof.log
