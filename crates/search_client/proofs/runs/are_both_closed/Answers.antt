use Rattle.cube_search.proofs.Later.{below_later}
use Rattle.cube_search.proofs.Steps.{still_search}
use Rattle.search_client.proofs.runs.are_both_closed.Goals as goal

pub is_run-requires-2-clause-search : goal.is_run-requires-2-clause-search
is_run-requires-2-clause-search g c = still_search c.args.second.now _ _ _ _ _ _ c.is_run.ensures.later c.requires.second

pub is_run-requires-2-clause-below : goal.is_run-requires-2-clause-below
is_run-requires-2-clause-below g c = below_later _ _ _ _ _ _ c.args.given.now c.is_run.ensures.later c.requires.below
