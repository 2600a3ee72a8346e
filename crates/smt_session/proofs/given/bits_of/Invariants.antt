use Rattle.std.proofs.Common.{take}
use Rattle.smt_session.specs.Growing.{AreBits}
use Rattle.smt_session.proofs.given.bits_of.Given as goal

abbrev pub invariant-assumed : goal.invariant-assumed
invariant-assumed l = AreBits l.log (take l.assumption-index l.assumptions) l.bits.items
