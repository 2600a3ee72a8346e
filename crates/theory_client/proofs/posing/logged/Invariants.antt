use Rattle.proof_log.specs.Stored.{Stands}
use Rattle.theory_client.proofs.posing.logged.Given as goal

abbrev pub invariant-terms : goal.invariant-terms
invariant-terms l = Stands l.terms.nodes l.log
