use Rattle.std.proofs.Common.{rules, ◌<◌, ◌^◌}
use Rattle.cdcl_core.proofs.Places.{literal_set, few_place, kept_starts, list_small}
use Rattle.cdcl_core.proofs.lists.WatchLists.set_literal.Goals as goal

pub overflow_cast-literal : goal.overflow_cast-literal
overflow_cast-literal c =
    let small : c.args.literal < 2 ^ 32 = list_small c.self.inside.places.items c.self.inside.heads.items c.args.self.now c.args.literal c.self.view_is c.self.invariant.1.0 c.requires.literal in
    search rules

pub invariant_of-self : goal.invariant_of-self
invariant_of-self c = (
  (literal_set c.self.inside.places.items c.self.inside.heads.items c.args.self.now c.args.place c.args.literal c.index.result.now c.self.view_is c.self.invariant.0 c.index.ensures).1,
  (
    few_place c.self.inside.places.items c.self.inside.heads.items c.args.place _ c.self.invariant.1.0,
    kept_starts c.self.inside.places.items c.args.place _ c.self.inside.starts.items c.self.invariant.1.1,
  ),
)

pub returns : goal.returns
returns c = (literal_set c.self.inside.places.items c.self.inside.heads.items c.args.self.now c.args.place c.args.literal c.index.result.now c.self.view_is c.self.invariant.0 c.index.ensures).0
