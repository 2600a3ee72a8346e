use Rattle.session_walks.proofs.Walkable.{may_walk}
use Rattle.session_walks.proofs.laws.sessions_may_walk.Goals as goal

pub returns : goal.returns
returns c = may_walk
