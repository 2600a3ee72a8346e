use Rattle.array_watches.proofs.Putting.{made_put, unnamed_agrees}
use Rattle.array_watches.proofs.making.put_node.Goals as goal

pub make-requires : goal.make-requires
make-requires c = record { declared = unnamed_agrees c.args.terms.now.nodes c.args.node.op c.requires.unnamed }

pub returns : goal.returns
returns c = made_put c.args.terms.now c.make.new.self c.args.node c.requires.sort.0 c.requires.sort.1 c.make.result c.make.ensures
