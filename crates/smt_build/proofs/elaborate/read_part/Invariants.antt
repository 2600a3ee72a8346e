use Rattle.smt_build.specs.Building.{Grows}
use Rattle.smt_build.specs.Views.{state_of}
use Rattle.smt_build.proofs.Stepping.{Reads}
use Rattle.smt_build.proofs.elaborate.read_part.Given as goal

abbrev pub invariant-loop-token : goal.invariant-loop-token
invariant-loop-token l = Reads l.symbols l.may_name (state_of l.fn.terms l.fn.scope) l.tokens l.token-index l.stack.items (state_of l.terms l.scope) × Grows l.symbols.signatures l.fn.terms l.terms
