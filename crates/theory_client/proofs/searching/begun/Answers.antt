use Rattle.std.proofs.Common.{arith}
use Rattle.cube_search.proofs.Resting.{keeps_nothing}
use Rattle.theory_client.proofs.searching.begun.Goals as goal

pub retarget-requires-clause-known : goal.retarget-requires-clause-known
retarget-requires-clause-known g c = λ p k. let lt = c.requires.all.below p k in c.requires.known p (omega (arith, lt, c.requires.from))

pub retarget-requires-clause-below : goal.retarget-requires-clause-below
retarget-requires-clause-below g c = λ p k. let lt = c.requires.all.below p k in omega (arith, lt, c.requires.from)

pub retarget-requires-clause-stored : goal.retarget-requires-clause-stored
retarget-requires-clause-stored g c = λ id d e plain. absurd (keeps_nothing c.in_ok-search.search c.in_ok-search.ensures id d e)
