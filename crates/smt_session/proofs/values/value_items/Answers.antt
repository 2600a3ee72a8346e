use Rattle.std.proofs.Common.{length}
use Rattle.smt_values.specs.Held as set
use Rattle.smt_session.proofs.Valuing.{terms_held, found_within, found_plain, item_more, read_held}
use Rattle.smt_session.proofs.values.value_items.Goals as goal

pub values_with-requires-clause-held : goal.values_with-requires-clause-held
values_with-requires-clause-held c =
    terms_held (length c.args.terms.now.nodes) c.args.asked.now c.in_ok-numbers.numbers.items c.as_slice.result.now c.in_ok-numbers.ensures c.as_slice.ensures.value c.requires.held

pub value_item-requires : goal.value_item-requires
value_item-requires c =
    let within = found_within c.args.terms.now.nodes (set.interpretation_of c.args.values.now) c.args.asked.now c.in_ok-numbers.numbers.items c.as_slice.result.now c.in_ok-found.found.items
    c.in_ok-numbers.ensures c.as_slice.ensures.value c.in_ok-found.ensures c.loop-at.at c.loop-at-test.true in
    let here = read_held c.in_ok-found.found.items c.loop-at.at c.index.result.now _ within c.index.ensures in
    found_plain c.args.terms.now.nodes (set.interpretation_of c.args.values.now) c.args.asked.now c.in_ok-numbers.numbers.items c.as_slice.result.now c.in_ok-found.found.items
    c.in_ok-numbers.ensures c.as_slice.ensures.value c.in_ok-found.ensures c.loop-at.at c.index.result.now c.loop-at-test.true here

pub loop-at-preserved : goal.loop-at-preserved
loop-at-preserved c =
    let within = found_within c.args.terms.now.nodes (set.interpretation_of c.args.values.now) c.args.asked.now c.in_ok-numbers.numbers.items c.as_slice.result.now c.in_ok-found.found.items
    c.in_ok-numbers.ensures c.as_slice.ensures.value c.in_ok-found.ensures c.loop-at.at c.loop-at-test.true in
    let here = read_held c.in_ok-found.found.items c.loop-at.at c.index.result.now _ within c.index.ensures in
    item_more c.args.terms.now.nodes (set.interpretation_of c.args.values.now) c.args.asked.now c.in_ok-numbers.numbers.items c.as_slice.result.now c.in_ok-found.found.items
    c.in_ok-numbers.ensures c.as_slice.ensures.value c.in_ok-found.ensures
    c.loop-at.items.items c.push.new.self.items c.loop-at.at c.index-asked-at.result c.index.result.now c.in_ok-item.item c.loop-at-test.true c.index-asked-at.is here c.in_ok-item.ensures c.loop-at.invariant c.in_ok-push.ensures.items
