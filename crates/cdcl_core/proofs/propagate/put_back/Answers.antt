use Rattle.std.proofs.Common.{◌<◌, get_or, [], ap, arith}
use Rattle.cdcl_core.specs.Chains.{first_of}
use Rattle.cdcl_core.proofs.Visits.{visit_kept, with_lists}
use Rattle.cdcl_core.proofs.propagate.put_back.Goals as goal

pub places-preserved : goal.places-preserved
places-preserved c =
    let pos : 0 < first_of (get_or c.places.w.lists.lists 0 []) = omega (arith, c.first.ensures.value, c.places-test.true) in
    record {
      visiting = rw c.move_first.ensures (visit_kept c.places.w c.args.t.now c.args.p c.args.stop c.places.invariant.visiting pos (λ z. absurd (c.requires.stopped z)));
      same = ap (λ w. with_lists w c.move_first.new.self) c.places.invariant.same;
    }
