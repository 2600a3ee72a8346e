use Rattle.std.proofs.Common.{arith}
use Rattle.dimacs_front.proofs.Splitting.{line_begins, line_goes_on}
use Rattle.dimacs_front.proofs.lines.line_length.Goals as goal

pub loop-size-init : goal.loop-size-init
loop-size-init c = record { within = omega arith; same = λ begun more. line_begins c.args.bytes.now begun more }

pub loop-size-preserved : goal.loop-size-preserved
loop-size-preserved c = record {
  within = omega arith;
  same = line_goes_on c.args.bytes.now c.loop-size.size c.loop-size-test.true c.if-bytes-size-ne10.true c.loop-size.invariant.same;
}
