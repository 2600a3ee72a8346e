use Rattle.std.proofs.Common.{◌∙◌, ap}
use Rattle.smt_build.proofs.Images.{op_declared}
use Rattle.smt_build.proofs.definition.remade.Goals as goal

pub returns-clause-grows : goal.returns-clause-grows
returns-clause-grows c = λ signatures. c.made.ensures.again signatures (op_declared signatures c.args.terms.now.nodes c.args.term c.in_ok-op.op (c.in_ok-op.ensures ∙ ap (λ n. n.op) c.node-node.ensures.node))
