use Rattle.smt_build.proofs.Uses.{AreLeft}
use Rattle.smt_build.proofs.definition.have_sorts.Given as goal

abbrev pub invariant-loop-place : goal.invariant-loop-place
invariant-loop-place l = AreLeft l.terms.nodes l.sorts l.args l.place
