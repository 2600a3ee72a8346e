use Rattle.std.proofs.Common.{◌<◌, length, get_or, [], sym, ◌∙◌, arith}
use Rattle.cdcl_core.specs.Chains.{first_of}
use Rattle.cdcl_core.proofs.Taking.{taking_starts, taking_drops, taking_keeps, taken_others}
use Rattle.cdcl_core.proofs.drop.take_out.Goals as goal

pub places-init : goal.places-init
places-init c = rw c.exchange.ensures (taking_starts c.args.lists.now c.args.list c.args.place c.requires.list c.requires.other c.requires.idle)

pub places-preserved-then-first-place : goal.places-preserved-then-first-place
places-preserved-then-first-place c =
    let size : 0 < length c.places.lists.lists = omega (arith, c.places.invariant.size, c.requires.list) in
    let pos : 0 < first_of (get_or c.places.lists.lists 0 []) = omega (arith, c.first.ensures.value, c.places-test.true) in
    rw c.pop_first.ensures (taking_drops c.args.lists.now c.places.lists c.args.list c.args.place c.places.invariant size c.requires.other pos (sym c.first-in-places.ensures.value ∙ c.if-first-place.true))

pub places-preserved : goal.places-preserved
places-preserved c =
    let size : c.args.list < length c.places.lists.lists = omega (arith, c.places.invariant.size, c.requires.list) in
    let pos : 0 < first_of (get_or c.places.lists.lists 0 []) = omega (arith, c.first.ensures.value, c.places-test.true) in
    rw c.move_first.ensures (taking_keeps c.args.lists.now c.places.lists c.args.list c.args.place c.places.invariant size c.requires.other pos (λ e. c.if-first-place.false (c.first-in-places.ensures.value ∙ e)))

pub returns-clause-others : goal.returns-clause-others
returns-clause-others c = λ i q nq. taken_others c.args.lists.now c.places.lists c.args.list c.args.place i q c.places.invariant (c.first.ensures.empty c.places-test.false) c.requires.idle c.requires.other nq
