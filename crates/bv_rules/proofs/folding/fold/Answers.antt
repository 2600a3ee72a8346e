use Rattle.bv_rules.proofs.Folded.{no_literals_in}
use Rattle.bv_rules.proofs.folding.fold.Goals as goal

pub returns : goal.returns
returns c = no_literals_in c.args.terms.now.nodes c.args.term c.node-node.result.now c.as_slice-count.result.now c.node-node.ensures.term c.node-node.ensures.node c.as_slice-count.ensures c.if-count-eq1.false c.if-count-eq2.false c.if-count-eq3.false
