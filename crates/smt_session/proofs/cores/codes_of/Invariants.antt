use Rattle.std.proofs.Common.{take}
use Rattle.smt_session.specs.Blaming.{AreCodes}
use Rattle.smt_session.proofs.cores.codes_of.Given as goal

abbrev pub invariant-loop-literal : goal.invariant-loop-literal
invariant-loop-literal l = AreCodes l.codes (take l.literal-index l.literals)
