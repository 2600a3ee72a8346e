use Rattle.check_cubes.proofs.Searched.{added_told, no_step}
use Rattle.proof_checker.proofs.searches.is_added_at.Goals as goal

pub returns-in-Some : goal.returns-in-Some
returns-in-Some c = added_told c.args.log.now.entries c.args.at c.in-Some.step.now c.is_added.result c.in-Some.ensures c.is_added.ensures

pub returns-in-None : goal.returns-in-None
returns-in-None c = no_step c.args.log.now.entries c.args.at c.in-None.ensures
