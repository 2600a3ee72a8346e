use Rattle.cube_search.proofs.Adding.{below_more}
use Rattle.theory_client.proofs.searching.run.Goals as goal

pub returns-clause-below : goal.returns-clause-below
returns-clause-below g c = below_more _ _ _ _ _ _ c.args.given.now c.run.ensures.later c.requires.below
