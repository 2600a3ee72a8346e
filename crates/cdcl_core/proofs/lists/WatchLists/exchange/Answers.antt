use Rattle.cdcl_core.proofs.Places.{exchanged_lists, few_lists}
use Rattle.cdcl_core.proofs.lists.WatchLists.exchange.Goals as goal

pub invariant_of-self : goal.invariant_of-self
invariant_of-self c = (
  (exchanged_lists c.self.inside.places.items c.self.inside.heads.items c.args.self.now c.args.a c.args.b c.index-first.result.now c.index.result.now c.self.view_is c.self.invariant.0 c.requires.a c.requires.b c.index-first.ensures c.index.ensures).1,
  (
    few_lists c.self.inside.places.items c.self.inside.heads.items c.args.a c.args.b c.index.result.now c.index-first.result.now c.self.invariant.1.0,
    c.self.invariant.1.1,
  ),
)

pub returns : goal.returns
returns c = (exchanged_lists c.self.inside.places.items c.self.inside.heads.items c.args.self.now c.args.a c.args.b c.index-first.result.now c.index.result.now c.self.view_is c.self.invariant.0 c.requires.a c.requires.b c.index-first.ensures c.index.ensures).0
