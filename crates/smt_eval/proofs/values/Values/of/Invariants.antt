use Rattle.smt_values.specs.Held.{interpretation_of}
use Rattle.smt_eval.proofs.Evaluating.{AreHeldBelow}
use Rattle.smt_eval.proofs.values.Values.of.Given as goal

abbrev pub invariant-loop-term : goal.invariant-loop-term
invariant-loop-term l = AreHeldBelow (interpretation_of l.interp) l.terms.nodes l.values.items l.term
