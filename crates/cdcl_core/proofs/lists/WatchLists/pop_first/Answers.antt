use Rattle.std.proofs.Common.{rules, ◌<◌, length}
use Rattle.cdcl_core.proofs.Places.{first_within, popped_first, few_list}
use Rattle.cdcl_core.proofs.lists.WatchLists.pop_first.Goals as goal

pub index-requires : goal.index-requires
index-requires c =
    let within : c.index-place.result.now < length c.self.inside.places.items = first_within c.self.inside.places.items c.self.inside.heads.items c.args.self.now c.args.list c.index-place.result.now c.self.view_is c.self.invariant.0 c.requires.list c.requires.pending c.index-place.ensures in
    search rules

pub invariant_of-self : goal.invariant_of-self
invariant_of-self c = (
  (popped_first c.self.inside.places.items c.self.inside.heads.items c.args.self.now c.args.list c.index-place.result.now c.index.result.now c.self.view_is c.self.invariant.0 c.requires.list c.requires.pending c.index-place.ensures c.index.ensures).1,
  (
    few_list c.self.inside.places.items c.self.inside.heads.items c.args.list _ c.self.invariant.1.0,
    c.self.invariant.1.1,
  ),
)

pub returns : goal.returns
returns c = (popped_first c.self.inside.places.items c.self.inside.heads.items c.args.self.now c.args.list c.index-place.result.now c.index.result.now c.self.view_is c.self.invariant.0 c.requires.list c.requires.pending c.index-place.ensures c.index.ensures).0
