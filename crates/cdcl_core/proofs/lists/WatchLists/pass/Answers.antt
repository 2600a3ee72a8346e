use Rattle.std.proofs.Common.{rules, refl, ◌≡◌, ◌<◌, ◌^◌, length, get_or}
use Rattle.cdcl_core.proofs.Places.{first_within, moved_first, few_set, kept_starts, head_is, next_first, place_few, shown_list}
use Rattle.cdcl_core.proofs.lists.WatchLists.pass.Goals as goal

pub index-requires : goal.index-requires
index-requires c =
    let head : c.args.place ≡ get_or c.self.inside.heads.items c.args.from c.args.place = head_is c.self.inside.places.items c.self.inside.heads.items c.args.self.now c.args.from c.args.place c.self.view_is c.self.invariant.0 c.requires.from c.requires.first in
    let within : c.args.place < length c.self.inside.places.items = first_within c.self.inside.places.items c.self.inside.heads.items c.args.self.now c.args.from c.args.place c.self.view_is c.self.invariant.0 c.requires.from c.requires.pending head in
    search rules

pub index_mut-requires : goal.index_mut-requires
index_mut-requires c =
    let head : c.args.place ≡ get_or c.self.inside.heads.items c.args.from c.args.place = head_is c.self.inside.places.items c.self.inside.heads.items c.args.self.now c.args.from c.args.place c.self.view_is c.self.invariant.0 c.requires.from c.requires.first in
    let within : c.args.place < length c.self.inside.places.items = first_within c.self.inside.places.items c.self.inside.heads.items c.args.self.now c.args.from c.args.place c.self.view_is c.self.invariant.0 c.requires.from c.requires.pending head in
    search rules

pub overflow_cast-place : goal.overflow_cast-place
overflow_cast-place c =
    let head : c.args.place ≡ get_or c.self.inside.heads.items c.args.from c.args.place = head_is c.self.inside.places.items c.self.inside.heads.items c.args.self.now c.args.from c.args.place c.self.view_is c.self.invariant.0 c.requires.from c.requires.first in
    let within : c.args.place < length c.self.inside.places.items = first_within c.self.inside.places.items c.self.inside.heads.items c.args.self.now c.args.from c.args.place c.self.view_is c.self.invariant.0 c.requires.from c.requires.pending head in
    let small : c.args.place < 2 ^ 32 = place_few c.self.inside.places.items c.self.inside.heads.items c.args.place c.self.invariant.1.0 within in
    search rules

pub invariant_of-self : goal.invariant_of-self
invariant_of-self c =
    let head : c.args.place ≡ get_or c.self.inside.heads.items c.args.from c.args.place = head_is c.self.inside.places.items c.self.inside.heads.items c.args.self.now c.args.from c.args.place c.self.view_is c.self.invariant.0 c.requires.from c.requires.first in (
      (moved_first c.self.inside.places.items c.self.inside.heads.items c.args.self.now c.args.from c.args.to c.args.place c.index-2.result.now c.index.result.now c.index_mut.result.now c.self.view_is c.self.invariant.0 c.requires.from c.requires.to c.requires.apart c.requires.pending head c.index.ensures c.index_mut.ensures.value c.index-2.ensures).1,
      (
        few_set c.self.inside.places.items c.self.inside.heads.items c.args.place c.args.from c.args.to _ _ _ c.self.invariant.1.0,
        kept_starts c.self.inside.places.items c.args.place _ c.self.inside.starts.items c.self.invariant.1.1,
      ),
    )

pub returns-clause-moved : goal.returns-clause-moved
returns-clause-moved c =
    let head : c.args.place ≡ get_or c.self.inside.heads.items c.args.from c.args.place = head_is c.self.inside.places.items c.self.inside.heads.items c.args.self.now c.args.from c.args.place c.self.view_is c.self.invariant.0 c.requires.from c.requires.first in
    (moved_first c.self.inside.places.items c.self.inside.heads.items c.args.self.now c.args.from c.args.to c.args.place c.index-2.result.now c.index.result.now c.index_mut.result.now c.self.view_is c.self.invariant.0 c.requires.from c.requires.to c.requires.apart c.requires.pending head c.index.ensures c.index_mut.ensures.value c.index-2.ensures).0

pub returns-clause-next : goal.returns-clause-next
returns-clause-next c =
    let head : c.args.place ≡ get_or c.self.inside.heads.items c.args.from c.args.place = head_is c.self.inside.places.items c.self.inside.heads.items c.args.self.now c.args.from c.args.place c.self.view_is c.self.invariant.0 c.requires.from c.requires.first in
    let m = moved_first c.self.inside.places.items c.self.inside.heads.items c.args.self.now c.args.from c.args.to c.args.place c.index-2.result.now c.index.result.now c.index_mut.result.now c.self.view_is c.self.invariant.0 c.requires.from c.requires.to c.requires.apart c.requires.pending head c.index.ensures c.index_mut.ensures.value c.index-2.ensures in
    next_first _ c.self.inside.heads.items _ c.args.from c.args.to c.args.place c.index.result.now.next refl m.1 (shown_list c.self.inside.places.items c.self.inside.heads.items c.args.self.now c.args.from c.args.to c.args.place c.index.result.now.next _ c.self.view_is c.requires.from) c.requires.apart
