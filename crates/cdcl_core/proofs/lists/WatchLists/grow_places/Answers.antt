use Rattle.std.proofs.Common.{rules, ◌≡◌, ◌<◌, length, vec_len, arith}
use Rattle.cdcl_core.proofs.Places.{places_after, few_after, grown_starts, more_starts}
use Rattle.cdcl_core.proofs.lists.WatchLists.grow_places.Goals as goal

pub invariant_of-self : goal.invariant_of-self
invariant_of-self c = (c.self.invariant.0, (c.self.invariant.1.0, more_starts c.self.inside.places.items c.self.inside.starts.items c.lengthen_starts.new.starts.items c.self.invariant.1.1 c.lengthen_starts.ensures.more))

pub invariant_of-self-in-Continue-branch-2 : goal.invariant_of-self-in-Continue-branch-2
invariant_of-self-in-Continue-branch-2 c =
    let same : vec_len c.self.inside.places ≡ length c.self.inside.places.items = search rules in
    let less : vec_len c.self.inside.places < c.args.count = omega (arith, c.len.ensures, c.if-len-count.true) in (
      (places_after c.self.inside.places.items c.resize.new.self.items c.self.inside.heads.items c.args.self.now c.args.count (vec_len c.self.inside.places) c.self.view_is c.self.invariant.0 c.in_ok-resize.ensures.items same less).1,
      (
        record { places = few_after c.self.inside.places.items c.resize.new.self.items c.args.count (vec_len c.self.inside.places) _ c.in_ok-resize.ensures.items same less (omega (arith, c.if-count-gt-MOST.false)); lists = c.self.invariant.1.0.lists },
        grown_starts c.self.inside.places.items c.resize.new.self.items c.lengthen_starts.new.starts.items c.args.count (vec_len c.self.inside.places) _ c.in_ok-resize.ensures.items same less c.in_ok-lengthen_starts.ensures.enough,
      ),
    )

pub returns-in_ok-resize-clause-ok : goal.returns-in_ok-resize-clause-ok
returns-in_ok-resize-clause-ok c =
    let same : vec_len c.self.inside.places ≡ length c.self.inside.places.items = search rules in
    let less : vec_len c.self.inside.places < c.args.count = omega (arith, c.len.ensures, c.if-len-count.true) in
    (places_after c.self.inside.places.items c.resize.new.self.items c.self.inside.heads.items c.args.self.now c.args.count (vec_len c.self.inside.places) c.self.view_is c.self.invariant.0 c.in_ok-resize.ensures.items same less).0
