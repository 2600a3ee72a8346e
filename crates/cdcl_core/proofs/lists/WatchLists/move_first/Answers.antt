use Rattle.std.proofs.Common.{rules, ◌<◌, length}
use Rattle.cdcl_core.proofs.Places.{first_within, moved_first, few_set, kept_starts}
use Rattle.cdcl_core.proofs.lists.WatchLists.move_first.Goals as goal

pub index-requires : goal.index-requires
index-requires c =
    let within : c.index-place.result.now < length c.self.inside.places.items = first_within c.self.inside.places.items c.self.inside.heads.items c.args.self.now c.args.from c.index-place.result.now c.self.view_is c.self.invariant.0 c.requires.from c.requires.pending c.index-place.ensures in
    search rules

pub index_mut-requires : goal.index_mut-requires
index_mut-requires c =
    let within : c.index-place.result.now < length c.self.inside.places.items = first_within c.self.inside.places.items c.self.inside.heads.items c.args.self.now c.args.from c.index-place.result.now c.self.view_is c.self.invariant.0 c.requires.from c.requires.pending c.index-place.ensures in
    search rules

pub invariant_of-self : goal.invariant_of-self
invariant_of-self c = (
  (moved_first c.self.inside.places.items c.self.inside.heads.items c.args.self.now c.args.from c.args.to c.index-place.result.now c.index-2.result.now c.index.result.now c.index_mut.result.now c.self.view_is c.self.invariant.0 c.requires.from c.requires.to c.requires.apart c.requires.pending c.index-place.ensures c.index.ensures c.index_mut.ensures.value c.index-2.ensures).1,
  (
    few_set c.self.inside.places.items c.self.inside.heads.items c.index-place.result.now c.args.from c.args.to _ _ _ c.self.invariant.1.0,
    kept_starts c.self.inside.places.items c.index-place.result.now _ c.self.inside.starts.items c.self.invariant.1.1,
  ),
)

pub returns : goal.returns
returns c = (moved_first c.self.inside.places.items c.self.inside.heads.items c.args.self.now c.args.from c.args.to c.index-place.result.now c.index-2.result.now c.index.result.now c.index_mut.result.now c.self.view_is c.self.invariant.0 c.requires.from c.requires.to c.requires.apart c.requires.pending c.index-place.ensures c.index.ensures c.index_mut.ensures.value c.index-2.ensures).0
