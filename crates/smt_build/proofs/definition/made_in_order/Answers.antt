use Rattle.std.proofs.Common.{◌≡◌, ◌≤◌, [], length, ap, ◌∙◌, arith}
use Rattle.std.proofs.lemmas.List.{length-replicate}
use Rattle.std.proofs.lemmas.Result.{err_from_is_err_and}
use Rattle.smt_build.proofs.Growth.{longer, grows_none, all_grow}
use Rattle.smt_build.proofs.Images.{made_none, order_reached, order_below, walk_fails, walk_more, walk_ends}
use Rattle.smt_build.proofs.definition.made_in_order.Goals as goal

pub order-init : goal.order-init
order-init c =
    let size : length c.in_ok-images.images.items ≡ length c.args.reached.now = ap length (c.in_ok-images.ensures.items_if_clones_equal (λ y h. h)) ∙ length-replicate (length c.args.order.now) 0 ∙ c.requires.rising.size in
    record {
      within = omega arith;
      grows = λ signatures. grows_none signatures c.args.terms.now;
      made = made_none c.args.terms.now c.args.body c.args.args.now c.args.reached.now c.in_ok-images.images.items size;
    }

pub again-requires : goal.again-requires
again-requires c =
    let more : length c.args.terms.now.nodes ≤ length c.order.terms.nodes = longer [] c.args.terms.now c.order.terms (c.order.invariant.grows []) in
    let below = order_below c.args.terms.now.nodes c.args.body c.args.reached.now c.args.order.now c.requires.rising c.order.term-index c.order-test.true in
    omega (arith, more, below, c.requires.held)

pub put-requires-clause-there : goal.put-requires-clause-there
put-requires-clause-there c = order_reached c.args.terms.now.nodes c.args.body c.args.reached.now c.args.order.now c.requires.rising c.order.term-index c.order-test.true

pub put-requires-clause-size : goal.put-requires-clause-size
put-requires-clause-size c = c.order.invariant.made.size

pub returns-in_err-image-clause-means : goal.returns-in_err-image-clause-means
returns-in_err-image-clause-means c =
    let i = c.order.invariant in
    let p = err_from_is_err_and c.from_residual-in_err-image.result c.from_residual-in_err-image.ensures.1 in
    rw (p.1, p.2) (walk_fails c.args.terms.now c.args.body c.args.args.now c.args.reached.now c.args.order.now c.requires.held c.requires.rising c.order.term-index c.order-test.true
    c.order.images.items c.as_slice.result.now c.order.terms i.grows c.as_slice.ensures.value i.made _ c.again.new.terms c.in_err-image.ensures.means)

pub returns-in_err-image-clause-grows : goal.returns-in_err-image-clause-grows
returns-in_err-image-clause-grows c = all_grow c.args.terms.now c.order.terms c.again.new.terms c.order.invariant.grows c.again.ensures.grows

pub order-preserved : goal.order-preserved
order-preserved c =
    let i = c.order.invariant in
    record {
      within = omega (arith, c.order-test.true);
      grows = all_grow c.args.terms.now c.order.terms c.again.new.terms i.grows c.again.ensures.grows;
      made =
          walk_more c.args.terms.now c.args.body c.args.args.now c.args.reached.now c.args.order.now c.requires.held c.requires.rising c.order.term-index c.order-test.true
          c.order.images.items c.as_slice.result.now c.order.terms i.grows c.as_slice.ensures.value i.made c.in_ok-image.image c.again.new.terms c.put.new.images.items
          c.in_ok-image.ensures.means c.put.ensures.size c.put.ensures.here c.put.ensures.others;
    }

pub again-requires-2 : goal.again-requires-2
again-requires-2 c =
    let more : length c.args.terms.now.nodes ≤ length c.order.terms.nodes = longer [] c.args.terms.now c.order.terms (c.order.invariant.grows []) in
    omega (arith, more, c.requires.held)

pub returns-clause-means : goal.returns-clause-means
returns-clause-means c =
    let i = c.order.invariant in
    walk_ends c.args.terms.now c.args.body c.args.args.now c.args.reached.now c.args.order.now c.requires.held c.requires.rising c.order.term-index i.within c.order-test.false
    c.order.images.items c.as_slice-2.result.now c.order.terms i.grows c.as_slice-2.ensures.value i.made c.again-2.new.terms c.again-2.result c.again-2.ensures.means

pub returns-clause-grows : goal.returns-clause-grows
returns-clause-grows c = all_grow c.args.terms.now c.order.terms c.again-2.new.terms c.order.invariant.grows c.again-2.ensures.grows
