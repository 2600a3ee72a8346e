use Rattle.std.proofs.Common.{arith}
use Rattle.bit_blast.proofs.Wiring.{joined_row, repeated-rest}
use Rattle.bit_blast.proofs.rows.repeated.Goals as goal

pub loop-copy-preserved : goal.loop-copy-preserved
loop-copy-preserved c = joined_row _ _ _ _ _ _ c.in_ok-extend_from_slice.ensures.items (repeated-rest c.args.copies c.loop-copy._copy c.args.a.now (omega arith)) c.loop-copy.invariant
