use Rattle.proof_log.specs.Stored.{Stands}
use Rattle.hub_core.proofs.lemma_tests.fill.Given as goal

abbrev pub invariant-loop-number : goal.invariant-loop-number
invariant-loop-number l = Stands l.proof.terms.nodes l.proof.log
