use Rattle.std.proofs.Common.{arith}
use Rattle.dimacs_front.proofs.Hints.{pad_more, pad_end}
use Rattle.dimacs_front.proofs.table.Table.pad.Goals as goal

pub loop-left-preserved : goal.loop-left-preserved
loop-left-preserved c = pad_more c.loop-left.left c.loop-left.self c.push.new.self _ (omega arith) c.in_ok-push.ensures c.loop-left.invariant

pub returns : goal.returns
returns c = pad_end c.loop-left.left c.loop-left.self _ (omega arith) c.loop-left.invariant
