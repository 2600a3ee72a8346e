use Rattle.check_cubes.proofs.Searched.{AreAddedTo}
use Rattle.proof_checker.proofs.searches.are_added.Given as goal

abbrev pub invariant-steps : goal.invariant-steps
invariant-steps l = AreAddedTo l.log.entries l.start l.at
