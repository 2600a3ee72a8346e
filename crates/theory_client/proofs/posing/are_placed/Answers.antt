use Rattle.std.proofs.Common.{arith}
use Rattle.theory_client.proofs.Asked.{placed_all, placed_more}
use Rattle.theory_client.proofs.posing.are_placed.Goals as goal

pub terms-preserved : goal.terms-preserved
terms-preserved c = placed_more c.args.log.now c.terms.term (c.is_placed.ensures c.if-not-is_placed.false) c.terms.invariant

pub returns : goal.returns
returns c = λ is. placed_all c.args.terms.now.nodes c.args.log.now c.terms.term (c.stored_logs_are_settled.ensures _ _ c.len-term-end.ensures.terms.list c.requires) (omega (arith, c.len-term-end.ensures, c.terms-test.false, c.terms.auto.term-end)) c.terms.invariant
