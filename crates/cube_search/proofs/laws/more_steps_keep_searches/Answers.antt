use Rattle.cube_search.proofs.Adding.{search_added, writing_added}
use Rattle.cube_search.proofs.laws.more_steps_keep_searches.Goals as goal

pub returns-clause-search : goal.returns-clause-search
returns-clause-search c = search_added

pub returns-clause-diary : goal.returns-clause-diary
returns-clause-diary c = writing_added
