use Rattle.std.proofs.Common.{take}
use Rattle.smt_values.specs.Held.{interpretation_of}
use Rattle.smt_eval.specs.Asked.{AreValuesOf}
use Rattle.smt_eval.proofs.asked.values_with.Given as goal

abbrev pub invariant-loop-term : goal.invariant-loop-term
invariant-loop-term l = AreValuesOf (interpretation_of l.interp) l.terms.nodes (take l.term-index l.asked) l.values.items
