use Rattle.std.proofs.Common.{rules, arith}
use Rattle.std.proofs.lemmas.Grind.{common_steps}
use Rattle.smt_build.specs.Operators.{operator_named}
use Rattle.smt_build.proofs.operators.operator_named.Goals as goal

pub returns : goal.returns
unfolding operator_named
returns c = first_of (search rules, grind (arith, common_steps))
