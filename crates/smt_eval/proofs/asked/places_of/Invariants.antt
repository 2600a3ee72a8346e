use Rattle.std.proofs.Common.{take}
use Rattle.smt_eval.specs.Asked.{AreAtPlaces}
use Rattle.smt_eval.proofs.asked.places_of.Given as goal

abbrev pub invariant-loop-term : goal.invariant-loop-term
invariant-loop-term l = AreAtPlaces l.reached (take l.term-index l.terms) l.out.items
