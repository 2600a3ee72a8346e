use Rattle.search_client.proofs.runs.ends_twice_on.Goals as goal

pub are_runs-are_so-requires-clause-search : goal.are_runs-are_so-requires-clause-search
are_runs-are_so-requires-clause-search g c = c.in_ok-search.ensures.search
