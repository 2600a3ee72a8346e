use Rattle.std.proofs.Common.{◌≡◌, ◌<◌, length, get_or, subst}
use Rattle.written_models.proofs.Elements.{read_next}
use Rattle.written_models.proofs.arrays.array_at.Goals as goal

pub loop-entry-preserved : goal.loop-entry-preserved
loop-entry-preserved c =
    let k = c.loop-entry.entry-index in
    let e = c.entry-item.result in
    let items : c.entries-entry-items.result.now ≡ c.args.array.now.entries = c.entries-entry-items.ensures in
    read_next c.args.index c.args.element c.args.array.now k c.loop-entry.read e c.index_width-width.ensures.array.rising (subst (λ l. k < length l) items c.loop-entry-test.true) (subst (λ l. e ≡ get_or l k e) items c.entry-item.is)
    c.loop-entry.invariant c.enter.new.read c.in_ok-enter.ensures.fits c.in_ok-enter.ensures.past
