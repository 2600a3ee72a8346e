use Rattle.std.proofs.Common.{◌≡◌, ◌<◌, Some, length, refl, arith}
use Rattle.std.specs.Prelude.{slice_get}
use Rattle.std.proofs.lemmas.Option.{slice_get_read}
use Rattle.access_walk.proofs.lanes.Lanes.mark_all.Goals as goal

pub mark_below-requires-clause-array : goal.mark_below-requires-clause-array
mark_below-requires-clause-array c =
    let marked = c.loop-at.self.marked.items in
    let less : c.loop-at.at < length marked = omega arith in
    let at : slice_get marked c.loop-at.at ≡ Some c.index-array.result.now = slice_get_read marked (length marked) c.loop-at.at c.index-array.result.now refl less c.index-array.ensures in
    let lt = c.loop-at.invariant.marks c.loop-at.at c.index-array.result.now at in
    omega (arith, lt, c.loop-at.invariant.count)
