use Rattle.std.proofs.Common.{length}
use Rattle.smt_syntax.specs.Sexps.{signs_in}
use Rattle.smt_build.proofs.NameReadings.{Names}
use Rattle.smt_build.proofs.naming.first_name.Given as goal

abbrev pub invariant-loop-spans : goal.invariant-loop-spans
invariant-loop-spans l = Names (signs_in l.tokens) l.fn.spans l.spans

abbrev pub decreases-loop-spans : goal.decreases-loop-spans
decreases-loop-spans l = length l.spans
