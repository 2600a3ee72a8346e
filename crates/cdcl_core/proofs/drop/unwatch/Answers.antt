use Rattle.std.proofs.Common.{rules, ◌≡◌, ◌+◌, ◌*◌, ◌^◌, ◌<◌, length, get_or, refl, ap, ◌∙◌, inl, inr, arith}
use Rattle.cdcl_core.proofs.Dropping.{watched_place, place_within, both_cleared}
use Rattle.cdcl_core.proofs.drop.unwatch.Goals as goal

pub overflow_add-a : goal.overflow_add-a
overflow_add-a c =
    let within_a : c.literal-a.result < length c.args.t.now.stamps.items = rw c.literal-a.ensures (place_within c.args.w.now c.args.t.now c.args.slot (2 * c.args.slot) c.requires.placed c.requires.low c.requires.high c.requires.watched (inl refl)) in
    let size : length c.args.t.now.stamps.items < 2 ^ 63 = search rules in
    omega (arith, within_a, size)

pub take_out-requires-clause-list : goal.take_out-requires-clause-list
take_out-requires-clause-list c =
    let within_a : c.literal-a.result < length c.args.t.now.stamps.items = rw c.literal-a.ensures (place_within c.args.w.now c.args.t.now c.args.slot (2 * c.args.slot) c.requires.placed c.requires.low c.requires.high c.requires.watched (inl refl)) in
    omega (arith, within_a, c.requires.placed.watched.lists)

pub take_out-requires-clause-lone : goal.take_out-requires-clause-lone
take_out-requires-clause-lone c = λ i ne. watched_place c.args.w.now c.args.t.now (2 * c.args.slot) i c.requires.placed (λ e. ne (rw c.literal-a.ensures e))

pub overflow_add-b : goal.overflow_add-b
overflow_add-b c =
    let read_b : c.literal-b.result ≡ get_or c.args.w.now.lists.literals (2 * c.args.slot + 1) 0 = c.literal-b.ensures ∙ ap (λ xs. get_or xs (2 * c.args.slot + 1) 0) c.take_out.ensures.literals in
    let within_b : c.literal-b.result < length c.args.t.now.stamps.items = rw read_b (place_within c.args.w.now c.args.t.now c.args.slot (2 * c.args.slot + 1) c.requires.placed c.requires.low c.requires.high c.requires.watched (inr refl)) in
    let size : length c.args.t.now.stamps.items < 2 ^ 63 = search rules in
    omega (arith, within_b, size)

pub take_out-requires-2-clause-list : goal.take_out-requires-2-clause-list
take_out-requires-2-clause-list c =
    let read_b : c.literal-b.result ≡ get_or c.args.w.now.lists.literals (2 * c.args.slot + 1) 0 = c.literal-b.ensures ∙ ap (λ xs. get_or xs (2 * c.args.slot + 1) 0) c.take_out.ensures.literals in
    let within_b : c.literal-b.result < length c.args.t.now.stamps.items = rw read_b (place_within c.args.w.now c.args.t.now c.args.slot (2 * c.args.slot + 1) c.requires.placed c.requires.low c.requires.high c.requires.watched (inr refl)) in
    omega (arith, within_b, c.requires.placed.watched.lists, c.take_out.ensures.size)

pub take_out-requires-2-clause-lone : goal.take_out-requires-2-clause-lone
take_out-requires-2-clause-lone c = λ i ne.
    let read_b : c.literal-b.result ≡ get_or c.args.w.now.lists.literals (2 * c.args.slot + 1) 0 = c.literal-b.ensures ∙ ap (λ xs. get_or xs (2 * c.args.slot + 1) 0) c.take_out.ensures.literals in
    let within_b : c.literal-b.result < length c.args.t.now.stamps.items = rw read_b (place_within c.args.w.now c.args.t.now c.args.slot (2 * c.args.slot + 1) c.requires.placed c.requires.low c.requires.high c.requires.watched (inr refl)) in
    c.take_out.ensures.others i (2 * c.args.slot + 1) (λ e. omega (arith, e)) ∙ watched_place c.args.w.now c.args.t.now (2 * c.args.slot + 1) i c.requires.placed (λ e. ne (rw read_b e))

pub returns-clause-cleared : goal.returns-clause-cleared
returns-clause-cleared c = both_cleared c.args.w.now.lists c.take_out.new.lists c.take_out-2.new.lists c.args.slot c.take_out.ensures.literals c.take_out-2.ensures.literals c.take_out.ensures.size c.take_out-2.ensures.size c.take_out-2.ensures.idle c.take_out.ensures.gone c.take_out.ensures.others c.take_out-2.ensures.gone c.take_out-2.ensures.others
