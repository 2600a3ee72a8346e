use Rattle.cdcl_core.proofs.Places.{emptied_list, few_list}
use Rattle.cdcl_core.proofs.lists.WatchLists.empty.Goals as goal

pub invariant_of-self : goal.invariant_of-self
invariant_of-self c = (
  (emptied_list c.self.inside.places.items c.self.inside.heads.items c.args.self.now c.args.list c.self.view_is c.self.invariant.0 c.requires).1,
  (
    few_list c.self.inside.places.items c.self.inside.heads.items c.args.list _ c.self.invariant.1.0,
    c.self.invariant.1.1,
  ),
)

pub returns : goal.returns
returns c = (emptied_list c.self.inside.places.items c.self.inside.heads.items c.args.self.now c.args.list c.self.view_is c.self.invariant.0 c.requires).0
