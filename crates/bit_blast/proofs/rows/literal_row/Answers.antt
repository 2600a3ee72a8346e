use Rattle.std.proofs.Common.{arith}
use Rattle.bit_blast.proofs.Wiring.{pushed_row, literal_bits-rest}
use Rattle.bit_blast.proofs.rows.literal_row.Goals as goal

pub loop-place-preserved : goal.loop-place-preserved
loop-place-preserved c =
    pushed_row _ _ _ _ _ _ c.in_ok-push.ensures.items
    (literal_bits-rest c.args.width c.loop-place._place c.loop-place.rest c.constant_literal.result (omega arith) c.constant_literal.ensures) c.loop-place.invariant
