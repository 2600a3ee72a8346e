use Rattle.std.proofs.Common.{arith}
use Rattle.smt_text.proofs.Framings.{nothing_searched}
use Rattle.smt_text.proofs.framer.Framer.finish.Goals as goal

pub invariant_of-self : goal.invariant_of-self
invariant_of-self c = (omega arith, nothing_searched)
