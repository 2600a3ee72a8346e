use Rattle.smt_syntax.specs.Sexps.{signs_in}
use Rattle.std.specs.Prelude.{[]}
use Rattle.smt_build.specs.Parameters.{next_parameter}
use Rattle.smt_build.proofs.PartLists.{Behind}
use Rattle.smt_build.proofs.parameters.parameters_in.Given as goal

abbrev pub invariant-parameters : goal.invariant-parameters
invariant-parameters l = Behind (next_parameter l.symbols) (signs_in l.tokens) l.spans [] l.span-index l.parameters
