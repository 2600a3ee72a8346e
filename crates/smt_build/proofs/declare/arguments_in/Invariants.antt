use Rattle.std.specs.Prelude.{[]}
use Rattle.smt_syntax.specs.Sexps.{signs_in}
use Rattle.smt_build.specs.Declaring.{next_argument}
use Rattle.smt_build.proofs.PartLists.{Behind}
use Rattle.smt_build.proofs.declare.arguments_in.Given as goal

abbrev pub invariant-arguments : goal.invariant-arguments
invariant-arguments l = Behind (next_argument l.symbols) (signs_in l.tokens) l.spans [] l.span-index l.args.items
