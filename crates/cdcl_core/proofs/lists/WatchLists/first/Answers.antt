use Rattle.cdcl_core.proofs.Places.{first_is, first_none}
use Rattle.cdcl_core.proofs.lists.WatchLists.first.Goals as goal

pub returns-clause-value : goal.returns-clause-value
returns-clause-value c = first_is c.self.inside.places.items c.self.inside.heads.items c.args.self.now c.args.list c.index.result.now c.self.view_is c.self.invariant.0 c.requires c.index.ensures

pub returns-clause-empty : goal.returns-clause-empty
returns-clause-empty c = λ z. first_none c.self.inside.places.items c.self.inside.heads.items c.args.self.now c.args.list c.index.result.now c.self.view_is c.self.invariant.0 c.requires c.index.ensures z
