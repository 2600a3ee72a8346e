use Rattle.std.proofs.Common.{refl, arith}
use Rattle.cube_search.proofs.Told.{shared_more}
use Rattle.cube_search.proofs.retarget.shared.Goals as goal

pub places-init : goal.places-init
places-init c = record { new = omega arith; same = refl }

pub places-preserved : goal.places-preserved
places-preserved c = record {
  new = omega (arith, c.if-place-new.false);
  same = shared_more c.args.old.now c.args.new.now c.places.place 0 0 c.places-test.true c.if-place-new.false c.if-old-place.false c.places.invariant.same;
}
