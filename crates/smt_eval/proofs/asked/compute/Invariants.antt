use Rattle.smt_values.specs.Held.{interpretation_of}
use Rattle.smt_eval.proofs.Placing.{IsComputing}
use Rattle.smt_eval.proofs.asked.compute.Given as goal

abbrev pub invariant-loop-term : goal.invariant-loop-term
invariant-loop-term l = IsComputing (interpretation_of l.interp) l.terms.nodes l.reached l.values.items l.term-index
