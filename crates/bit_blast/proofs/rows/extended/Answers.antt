use Rattle.std.proofs.Common.{arith}
use Rattle.bit_blast.proofs.Wiring.{pushed_row, replicate-rest}
use Rattle.bit_blast.proofs.rows.extended.Goals as goal

pub loop-place-preserved : goal.loop-place-preserved
loop-place-preserved c = pushed_row _ _ _ _ _ _ c.in_ok-push.ensures.items (replicate-rest c.args.more c.loop-place._place c.args.by (omega arith)) c.loop-place.invariant
