use Rattle.std.proofs.Common.{◌≡◌, Bool, true, false, MatchBool, sym, subst}
use Rattle.smt_terms.specs.declared.node.Op.{Op}
use Rattle.smt_terms.specs.Same.{same_op, op_same}
use Rattle.walk_rows.proofs.own.has_op.Goals as goal

told : (a b : Op) (r : Bool) → r ≡ same_op a b → MatchBool r (a ≡ b) (Unit {0})
told a b true e = op_same a b (sym e)
told a b false e = tt

pub returns : goal.returns
returns c = subst (λ n. MatchBool c.eq.result (n.op ≡ c.args.op.now) (Unit {0})) c.node.ensures.node (told c.node.result.now.op c.args.op.now c.eq.result c.eq.ensures)
