use Rattle.std.proofs.Common.{◌≡◌, ◌<◌, length, arith}
use Rattle.smt_terms.specs.Nodes.{node_at}
use Rattle.smt_values.specs.Held.{interpretation_of}
use Rattle.smt_eval.specs.Evaluated.{given, IsGiven}
use Rattle.smt_eval.proofs.Evaluating.{next_taken, next_value, next_below, all_held}
use Rattle.smt_eval.proofs.values.Values.of.Goals as goal

pub evaluate-requires-clause-taken : goal.evaluate-requires-clause-taken
evaluate-requires-clause-taken c =
    let within : c.loop-term.term < length c.args.terms.now.nodes = omega arith in
    let taken = next_taken (interpretation_of c.args.interp.now) c.args.terms.now.nodes c.loop-term.values.items c.node-node.ensures.terms.list c.loop-term.term c.loop-term.invariant within in
    rw (c.as_slice.ensures.value, c.as_slice-args.ensures, c.node-node.ensures.node) taken

pub loop-term-preserved : goal.loop-term-preserved
loop-term-preserved c =
    let M = interpretation_of c.args.interp.now in
    let nodes = c.args.terms.now.nodes in
    let within : c.loop-term.term < length nodes = omega arith in
    let own : IsGiven M (node_at nodes c.loop-term.term).op (given c.loop-term.values.items (node_at nodes c.loop-term.term).args) c.in_ok-value.value = rw (c.as_slice.ensures.value, c.as_slice-args.ensures, c.node-node.ensures.node) at c.in_ok-value.ensures in
    let value = next_value M nodes c.loop-term.values.items c.node-node.ensures.terms.list c.loop-term.term c.loop-term.invariant within c.in_ok-value.value own in
    rw c.in_ok-push.ensures.items (next_below M nodes c.loop-term.values.items c.loop-term.term c.in_ok-value.value c.loop-term.invariant own.plain value)

pub returns : goal.returns
returns c =
    let last : c.loop-term.term ≡ length c.args.terms.now.nodes = omega arith in
    all_held (interpretation_of c.args.interp.now) c.args.terms.now.nodes c.loop-term.values.items c.loop-term.term c.len-term-end.ensures.terms.list c.loop-term.invariant last
