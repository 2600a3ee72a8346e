use Rattle.std.proofs.Common.{arith}
use Rattle.proof_conversion.proofs.Filed.{filed_index, filed_past}
use Rattle.proof_conversion.proofs.deleting.file.Goals as goal

pub returns-in_ok-push : goal.returns-in_ok-push
returns-in_ok-push c =
    filed_index c.args.lists.now.items c.args.part c.args.place c.index_mut.result.now c.push.new.self
    (let t = c.if-row-len.true in let l = c.len.ensures in omega (arith, t, l)) c.index_mut.ensures.value c.in_ok-push.ensures.ok

pub returns-else-row-len : goal.returns-else-row-len
returns-else-row-len c = filed_past c.args.part c.args.place c.args.lists.now.items (let t = c.if-row-len.false in let l = c.len.ensures in omega (arith, t, l))
