use Rattle.std.proofs.Common.{◌∙◌, ap, ◌++◌, ◌∷◌, [], arith}
use Rattle.circ_muldiv.proofs.Building.{product_begun, product_more, row_long}
use Rattle.circ_muldiv.proofs.products.put_product.Goals as goal

pub loop-i-init : goal.loop-i-init
loop-i-init c =
    product_begun _ _ _ _ c.args.a.now c.args.b.now c.index.result.now c.index-b-0.result c.requires.same c.requires.some c.requires.room c.index-b-0.is c.in_ok-places.ensures.gains c.in_ok-places.ensures.bits c.index.ensures (c.in_ok-push.ensures.items ∙ ap (λ t. t ++ c.index.result.now ∷ []) c.in_ok-product.ensures.items)

pub index-requires-in-loop-i : goal.index-requires-in-loop-i
index-requires-in-loop-i c =
    let row = rw c.as_slice.ensures.value at c.in_ok-places-2.ensures.bits in
    let long = row_long _ _ _ _ _ c.args.a.now c.args.b.now c.loop-i.i c.requires.same c.loop-i.invariant c.loop-i-test.true row in
    omega (arith, long)

pub loop-i-preserved : goal.loop-i-preserved
loop-i-preserved c =
    let row = rw c.as_slice.ensures.value at c.in_ok-places-2.ensures.bits in
    let gains = rw c.as_slice.ensures.value at c.in_ok-places-2.ensures.gains in
    product_more _ _ _ _ _ _ _ c.args.a.now c.args.b.now c.index-in-loop-i.result.now c.index-b-i.result c.loop-i.i c.requires.same c.loop-i.invariant c.loop-i-test.true c.index-b-i.is gains row c.index-in-loop-i.ensures c.in_ok-push-2.ensures.items
