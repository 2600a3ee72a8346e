use Rattle.smt_text.proofs.Readings.{doubled_more}
use Rattle.smt_text.proofs.print.push_doubled.Goals as goal

pub loop-byte-preserved : goal.loop-byte-preserved
loop-byte-preserved c = doubled_more _ _ _ _ _ c.loop-byte-test.true c.loop-byte.invariant c.in_ok-push_doubled_byte.ensures.ok
