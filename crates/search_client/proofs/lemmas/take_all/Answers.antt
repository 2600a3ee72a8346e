use Rattle.cube_search.proofs.Steps.{still_search}
use Rattle.search_client.proofs.lemmas.take_all.Goals as goal

pub take_steps-requires-clause-search : goal.take_steps-requires-clause-search
take_steps-requires-clause-search g c = still_search c.args.search.now _ _ _ _ _ _ c.in_ok-told.ensures.later c.requires
