use Rattle.std.proofs.Common.{refl}
use Rattle.workers_client.proofs.Asking.{problem_of_all}
use Rattle.workers_client.proofs.tests.searched.Goals as goal

pub solve-requires-clause-problem : goal.solve-requires-clause-problem
solve-requires-clause-problem g c κs within =
    problem_of_all c.args.terms.now.nodes c.args.log _ _ _ _ c.in-Ok.asked c.requires.stands c.in-Ok.ensures c.as_slice.ensures.value refl c.as_slice-2.ensures.value
