use Rattle.std.proofs.Common.{rules, ◌≡◌, ◌<◌, length, vec_len, arith}
use Rattle.cdcl_core.proofs.Places.{lists_after, few_after}
use Rattle.cdcl_core.proofs.lists.WatchLists.grow_lists.Goals as goal

pub invariant_of-self : goal.invariant_of-self
invariant_of-self c =
    let same : vec_len c.self.inside.heads ≡ length c.self.inside.heads.items = search rules in
    let less : vec_len c.self.inside.heads < c.args.count = omega (arith, c.len.ensures, c.if-len-count.true) in (
      (lists_after c.self.inside.places.items c.self.inside.heads.items c.resize.new.self.items c.args.self.now c.args.count (vec_len c.self.inside.heads) c.self.view_is c.self.invariant.0 c.in_ok-resize.ensures.items same less).1,
      (
        record { places = c.self.invariant.1.0.places; lists = few_after c.self.inside.heads.items c.resize.new.self.items c.args.count (vec_len c.self.inside.heads) 0 c.in_ok-resize.ensures.items same less (omega (arith, c.if-count-gt-MOST.false)) },
        c.self.invariant.1.1,
      ),
    )

pub returns-in_ok-resize-clause-ok : goal.returns-in_ok-resize-clause-ok
returns-in_ok-resize-clause-ok c =
    let same : vec_len c.self.inside.heads ≡ length c.self.inside.heads.items = search rules in
    let less : vec_len c.self.inside.heads < c.args.count = omega (arith, c.len.ensures, c.if-len-count.true) in
    (lists_after c.self.inside.places.items c.self.inside.heads.items c.resize.new.self.items c.args.self.now c.args.count (vec_len c.self.inside.heads) c.self.view_is c.self.invariant.0 c.in_ok-resize.ensures.items same less).0
