use Rattle.theory_client.specs.Posed.{AreAllBelow}
use Rattle.theory_client.proofs.posing.positions.Given as goal

abbrev pub invariant-steps : goal.invariant-steps
invariant-steps l = AreAllBelow l.log.entries l.positions.items l.at
