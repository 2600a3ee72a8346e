use Rattle.cdcl_core.proofs.Places.{pushed_first, few_push, kept_starts}
use Rattle.cdcl_core.proofs.lists.WatchLists.push_first.Goals as goal

pub invariant_of-self : goal.invariant_of-self
invariant_of-self c = (
  (pushed_first c.self.inside.places.items c.self.inside.heads.items c.args.self.now c.args.list c.args.place c.index.result.now c.index_mut.result.now c.self.view_is c.self.invariant.0 c.requires.list c.requires.place c.requires.named c.requires.idle c.index.ensures c.index_mut.ensures.value).1,
  (
    few_push c.self.inside.places.items c.self.inside.heads.items c.args.place c.args.list c.args.place _ c.self.invariant.1.0,
    kept_starts c.self.inside.places.items c.args.place _ c.self.inside.starts.items c.self.invariant.1.1,
  ),
)

pub returns-clause-pushed : goal.returns-clause-pushed
returns-clause-pushed c = (pushed_first c.self.inside.places.items c.self.inside.heads.items c.args.self.now c.args.list c.args.place c.index.result.now c.index_mut.result.now c.self.view_is c.self.invariant.0 c.requires.list c.requires.place c.requires.named c.requires.idle c.index.ensures c.index_mut.ensures.value).0

pub returns-clause-once : goal.returns-clause-once
returns-clause-once c = λ q. (pushed_first c.self.inside.places.items c.self.inside.heads.items c.args.self.now c.args.list c.args.place c.index.result.now c.index_mut.result.now c.self.view_is c.self.invariant.0 c.requires.list c.requires.place c.requires.named c.requires.idle c.index.ensures c.index_mut.ensures.value).1.once q
