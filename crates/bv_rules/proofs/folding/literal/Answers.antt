use Rattle.std.proofs.Common.{◌∙◌, sym}
use Rattle.bv_rules.proofs.Folded.{literal_sort}
use Rattle.bv_rules.proofs.folding.literal.Goals as goal

pub returns-then-is_literal-clause-sort : goal.returns-then-is_literal-clause-sort
returns-then-is_literal-clause-sort c = literal_sort c.args.terms.now.nodes c.args.term c.node-node.result.now c.node-node.ensures.term c.node-node.ensures.node (sym c.is_literal.ensures ∙ c.if-is_literal.true) c.apply.result c.apply.ensures
