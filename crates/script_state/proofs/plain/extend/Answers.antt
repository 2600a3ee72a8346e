use Rattle.std.proofs.Common.{arith, length-append}
use Rattle.script_state.proofs.Marking.{PlainSoFar, plain_more}
use Rattle.script_state.proofs.plain.extend.Goals as goal

pub loop-term-preserved : goal.loop-term-preserved
loop-term-preserved c =
    let so_far : PlainSoFar c.args.terms.now.nodes c.loop-term.marks.items c.loop-term.term = c.loop-term.invariant in
    let here = rw (c.deref.ensures.value, c.node.ensures.node) at c.is_marked_node-plain.ensures in
    let have = plain_more _ _ _ c.is_marked_node-plain.result c.node.ensures.terms.list so_far (omega (arith, c.loop-term-test.true, c.len-count.ensures.length)) here in
    rw c.in_ok-push.ensures.items (record { have = have; count = omega (arith, length-append c.loop-term.marks.items, so_far.count) })
