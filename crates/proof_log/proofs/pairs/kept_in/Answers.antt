use Rattle.std.proofs.Common.{◌≡◌, Some, refl}
use Rattle.std.specs.Prelude.{slice_get}
use Rattle.std.proofs.lemmas.Option.{slice_get_read, slice_get_past}
use Rattle.proof_log.proofs.Rows.{found_is, other_is, none_is}
use Rattle.proof_log.proofs.pairs.kept_in.Goals as goal

pub returns-then-item-lower : goal.returns-then-item-lower
returns-then-item-lower g c =
    let at : slice_get c.args.items.now c.place_of-place.result ≡ Some c.in-Some.item.now = slice_get_read _ _ _ _ refl c.in-Some.ensures.lookup.3.0 c.in-Some.ensures.lookup.1 in
    found_is _ _ _ _ c.requires c.place_of-place.ensures.splits at c.if-item-lower.true

pub returns-else-item-lower : goal.returns-else-item-lower
returns-else-item-lower g c =
    let at : slice_get c.args.items.now c.place_of-place.result ≡ Some c.in-Some.item.now = slice_get_read _ _ _ _ refl c.in-Some.ensures.lookup.3.0 c.in-Some.ensures.lookup.1 in
    other_is _ _ _ _ c.requires c.place_of-place.ensures.splits at c.if-item-lower.false

pub returns-in-None : goal.returns-in-None
returns-in-None g c = none_is _ _ _ c.requires c.place_of-place.ensures.splits (slice_get_past _ _ c.in-None.ensures.lookup.3)
