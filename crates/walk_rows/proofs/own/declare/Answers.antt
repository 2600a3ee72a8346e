use Rattle.smt_terms.specs.declared.node.Op.TheVariants.{Constant}
use Rattle.walk_rows.proofs.Making.{found_made}
use Rattle.walk_rows.proofs.own.declare.Goals as goal

pub returns-in-Some : goal.returns-in-Some
returns-in-Some c = found_made c.args.terms.now c.len-count.ensures.terms.list (Constant c.args.declaration c.args.sort) c.in-Some.term (let e = c.find.ensures in let s = c.in-Some.is in let l = c.leaf-node.ensures in cc)
