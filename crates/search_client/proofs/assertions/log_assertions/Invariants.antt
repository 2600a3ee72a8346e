use Rattle.proof_log.specs.Stored.{Stands}
use Rattle.search_client.proofs.assertions.log_assertions.Given as goal

abbrev pub invariant-assertions : goal.invariant-assertions
invariant-assertions l = Stands l.proof.terms.nodes l.proof.log
