use Rattle.std.proofs.Common.{ap, ◌∙◌, map}
use Rattle.bv_rewrite.specs.Simplifying.{in_order, end_in}
use Rattle.bv_rewrite.proofs.Following.{settled_is}
use Rattle.bv_rewrite.proofs.simplifying.settle.Goals as goal

pub returns : goal.returns
returns g c =
    settled_is c.args.terms.now.nodes (g.I.Images.image_of c.args.images.now) c.args.t c.node-node.result.now c.in_ok-op.op c.in_ok-args.args c.in_ok-ends.ends.items
    c.node-node.ensures.node c.in_ok-op.ensures (c.in_ok-args.ensures ∙ ap (in_order c.node-node.result.now.op) c.as_slice-2.ensures.value) (c.in_ok-ends.ensures ∙ ap (λ l. map (end_in (g.I.Images.image_of c.args.images.now) c.len.result) l) c.as_slice.ensures ∙ ap (λ n. map (end_in (g.I.Images.image_of c.args.images.now) n) c.node-node.result.now.args) c.len.ensures.length)
